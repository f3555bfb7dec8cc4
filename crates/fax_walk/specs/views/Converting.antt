-- Raw PBM that is converted as its bytes come.
use Rattle.std.specs.Prelude.{◌≡◌, ◌≢◌, ℕ, ◌≤◌, List, [], ◌++◌, drop, length, map}
use Rattle.std.specs.Prelude.{MatchOption, Option, Some, None}
use Rattle.fax_page.specs.declared.Coding.{Coding}
use Rattle.fax_page.specs.declared.Coding.TheVariants.{Mh, Mr, Mmr}
use Rattle.fax_files.specs.declared.pbm.PbmFault.{PbmFault}
use Rattle.fax_files.specs.Directory.{max_file}
use Rattle.fax_files.specs.Page.{usual_resolution}
use Rattle.fax_files.specs.Pbm.{AreImages, Image, IsImageFault, pbm_of}
use Rattle.fax_files.specs.views.PagesSoFar.{HasAdded}
use Rattle.fax_files.specs.views.Writing.{Writing}
use Rattle.fax_walk.specs.declared.options.Options.{Options}
use Rattle.fax_walk.specs.declared.options.Target.{Target}
use Rattle.fax_walk.specs.declared.options.Target.TheVariants.{Pbm, Mh as ToMh, Mr as ToMr}
use Rattle.fax_walk.specs.declared.options.Target.TheVariants.{Mmr as ToMmr}
use Rattle.fax_walk.specs.declared.output.Output.{Output}
use Rattle.fax_walk.specs.declared.output.Output.TheVariants.{Images, File, TooLarge}
use Rattle.fax_walk.specs.Converted.{SourcePage, most_pages, written_page, target_bytes, IsTooLarge}

-- how the strips of a target are coded, if it is a TIFF file
abbrev pub coding_of : Target → Option Coding
coding_of Pbm = None
coding_of ToMh = Some Mh
coding_of ToMr = Some Mr
coding_of ToMmr = Some Mmr

-- how far a conversion is written: by these options, these pages
pub record Progress : Type 0 where
  pub options : Options
  pub pages : List SourcePage

-- whatever pages follow, the output is too large
abbrev pub StaysTooLarge : Progress → Type 0
StaysTooLarge at =
    (more : List SourcePage)
    → IsTooLarge at.options.target (at.pages ++ more)
    (target_bytes at.options.target at.options (at.pages ++ more))

-- the images of the pages are written
pub record HasPutImages (bytes : List ℕ) (at : Progress) : Type 0 where
  pub target : at.options.target ≡ Pbm
  pub bytes_are : bytes ≡ pbm_of (map (λ page. page.image) at.pages)
  pub fits : length bytes ≤ max_file

-- the pages are written into a TIFF file, which says at first that it is of as many as can be
pub record HasPages (coding : Coding) (writer : Writing) (at : Progress) : Type 0 where
  pub coding_is : coding_of at.options.target ≡ Some coding
  pub few : length at.pages ≤ most_pages
  pub added : HasAdded most_pages (map (written_page at.options coding) at.pages) writer
  pub fits : length writer.written.bytes ≤ max_file

-- an output has these pages, and no part of another
abbrev pub IsWrittenTo : Output → Progress → Type 0
IsWrittenTo (Images bytes) at = HasPutImages bytes at
IsWrittenTo (File coding writer None) at = HasPages coding writer at
IsWrittenTo (File coding writer (Some page)) at = ⊥
IsWrittenTo TooLarge at = StaysTooLarge at

-- the page of an image, which has no resolution of its own
abbrev pub page_of_image : Image → SourcePage
page_of_image image = record { image = image; resolution = usual_resolution; bad = None }

-- what was taken of a raw PBM is so many whole images, which are written: whatever bytes follow,
-- theirs are the images after them
pub record IsConverting (taken : List ℕ) (options : Options) (count : ℕ)
    (output : Output) : Type 0 where
  pub images : List Image
  pub counted : count ≡ length images
  pub few : count ≤ length taken
  pub after : (remaining : List ℕ) (more : List Image) (end : Option PbmFault)
      → AreImages remaining more end
      → AreImages (taken ++ remaining) (images ++ more) end
  pub written : IsWrittenTo output (record {
    options = options;
    pages = map page_of_image images;
  })

-- so much was taken of the bytes, and what is left is nothing, or no image, for this fault
pub record IsLeftBy (bytes : List ℕ) (taken : ℕ) (fault : Option PbmFault) : Type 0 where
  pub within : taken ≤ length bytes
  pub remaining : MatchOption fault (drop taken bytes ≡ [])
      (λ fault. (drop taken bytes ≢ []) × IsImageFault (drop taken bytes) fault)
