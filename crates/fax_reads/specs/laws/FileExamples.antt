-- Worked files, and what the relations say of them. Each answer was worked out by TIFF 6.0 and this
-- project's profile, so a wrong definition is an example that does not hold. Fields are named by
-- the numbers that TIFF 6.0 gives them.
use Rattle.std.specs.Prelude.{◌≡◌, ℕ, ◌+◌, ◌-◌, ◌*◌, ◌==◌, nat_lt, if◌then◌else◌, not, false}
use Rattle.std.specs.Prelude.{List, [], ◌∷◌, ◌++◌, length, map, filter, flat_map, take, codes}
use Rattle.fax_bits.specs.declared.Colour.{Colour}
use Rattle.fax_bits.specs.declared.FillOrder.TheVariants.{MsbFirst}
use Rattle.fax_page.specs.declared.Coding.TheVariants.{Mh}
use Rattle.fax_page.specs.declared.StripFault.TheVariants.{DataEnds, BadCode}
use Rattle.fax_files.specs.declared.FileFault.{FileFault}
use Rattle.fax_files.specs.declared.FileFault.TheVariants.{ShortHeader, ByteOrder, Magic}
use Rattle.fax_files.specs.declared.FileFault.TheVariants.{NoDirectory, DirectoryOutside}
use Rattle.fax_files.specs.declared.FileFault.TheVariants.{DirectoryLoop, MissingField, BadField}
use Rattle.fax_files.specs.declared.FileFault.TheVariants.{Unsupported, OutOfLimits, StripOutside}
use Rattle.fax_files.specs.Layout.{WrittenField, field_bytes, field_of, four, two}
use Rattle.fax_walk.specs.declared.end.End.{End}
use Rattle.fax_walk.specs.declared.end.End.TheVariants.{EndOfPages, Fault}
use Rattle.fax_walk.specs.Pages.{AreForms, File, FormItem, Strip}
use Rattle.fax_walk.specs.Items.{AreItems, RowItem}
use Rattle.fax_reads.specs.laws.Examples.{pels}

-- a field of one value, which is a SHORT (3) or a LONG (4)
abbrev pub short : ℕ → ℕ → WrittenField
short tag value = field_of tag 3 1 (four value)

abbrev pub long : ℕ → ℕ → WrittenField
long tag value = field_of tag 4 1 (four value)

-- a field of two values, which are SHORT
abbrev pub both : ℕ → ℕ → ℕ → WrittenField
both tag first second = field_of tag 3 2 (two first ++ two second)

-- the fields of a page of one row of 8 pels in MMR, whose strip is the byte after the directory
abbrev pub page_fields : List WrittenField
page_fields =
    -- ImageWidth and ImageLength
    short 256 8
    ∷ short 257 1
    -- Compression and PhotometricInterpretation
    ∷ short 259 4
    ∷ short 262 0
    -- StripOffsets and StripByteCounts
    ∷ short 273 86
    ∷ short 279 1
    ∷ []

-- fields without one of them, and with others in the place of those of their tags
abbrev pub without : ℕ → List WrittenField → List WrittenField
without tag = filter (λ field. not (field.tag == tag))

abbrev pub with : WrittenField → List WrittenField → List WrittenField
with new = map (λ field. if field.tag == new.tag then new else field)

-- a header, little-endian, with the offset of the first directory
abbrev pub header_to : ℕ → List ℕ
header_to first = codes "II" ++ two 42 ++ four first

-- a directory with the offset of the next one
abbrev pub directory : List WrittenField → ℕ → List ℕ
directory fields next = two (length fields) ++ flat_map field_bytes fields ++ four next

-- a file of a directory with these fields, and the bytes after it
abbrev pub worked_file : List WrittenField → List ℕ → List ℕ
worked_file fields more = header_to 8 ++ directory fields 0 ++ more

-- the bits of a strip: a row in MMR that is its reference row, and then zeros
abbrev pub same_row : List ℕ
same_row = 0x80 ∷ []

-- a file of a page with one field more, or with another field
abbrev pub page_and : WrittenField → List ℕ
page_and new = worked_file (new ∷ page_fields) []

abbrev pub page_with : WrittenField → List ℕ
page_with new = worked_file (with new page_fields) same_row

abbrev pub page_without : ℕ → List ℕ
page_without tag = worked_file (without tag page_fields) []

-- the file of a page, and of a page that is followed by a directory at this offset
abbrev pub page_before : ℕ → List ℕ
page_before next = header_to 8 ++ directory page_fields next ++ same_row

-- the page and the number of a row, and its pels
abbrev pub row_and_place : RowItem → ℕ × ℕ × List Colour
row_and_place item = (item.page, item.row, item.pels)

-- row r of page p, with pels that a text spells
abbrev pub spelled_row : ℕ → ℕ → List ℕ → ℕ × ℕ × List Colour
spelled_row p r text = (p, r, pels text)

abbrev pub white_at : ℕ → ℕ → ℕ × ℕ × List Colour
white_at p r = spelled_row p r (codes "WWWWWWWW")

-- the rows of a file are these, and this is their end
pub record HasRows (file : List ℕ) (rows : List (ℕ × ℕ × List Colour)) (end : End) : Type 0 where
  pub items : List RowItem
  pub are : AreItems file items end
  pub rows_are : map row_and_place items ≡ rows

-- the pages of a file have these forms, and this is their end
pub record HasForms (file : List ℕ) (forms : List FormItem) (end : End) : Type 0 where
  pub are : AreForms file forms end

-- a file has no row and no form, for this fault of its first page
pub record IsFileRefused (file : List ℕ) (fault : FileFault) : Type 0 where
  pub rows : AreItems file [] (Fault 0 0 (File fault))
  pub forms : AreForms file [] (Fault 0 0 (File fault))

-- faults of a header
pub record AreFaultsOfHeaders : Type 0 where
  pub no_bytes : IsFileRefused [] ShortHeader
  pub seven_bytes : IsFileRefused (take 7 (header_to 8)) ShortHeader
  pub no_order : IsFileRefused (two 0 ++ two 42 ++ four 8) ByteOrder
  pub mixed_order : IsFileRefused (codes "IM" ++ two 42 ++ four 8) ByteOrder
  pub bigtiff : IsFileRefused (codes "II" ++ two 43 ++ four 8) Magic
  pub other_order : IsFileRefused (codes "MM" ++ two 42 ++ four 8) Magic
  pub no_directory : IsFileRefused (header_to 0) NoDirectory

-- faults of the chain of directories
pub record AreFaultsOfChains : Type 0 where
  pub directory_at_the_end : IsFileRefused (header_to 8) DirectoryOutside
  pub directory_past_the_end : IsFileRefused (header_to 1000) DirectoryOutside
  pub count_is_cut : IsFileRefused (header_to 8 ++ 0 ∷ []) DirectoryOutside
  pub entries_are_cut : IsFileRefused (header_to 8 ++ two 1 ++ four 0) DirectoryOutside
  pub next_offset_is_cut : IsFileRefused (header_to 8 ++ two 0 ++ take 3 (four 0)) DirectoryOutside
  pub next_is_outside : HasRows (page_before 1000) (white_at 0 0 ∷ [])
      (Fault 1 0 (File DirectoryOutside))
  pub loop : HasRows (page_before 8) (white_at 0 0 ∷ []) (Fault 1 0 (File DirectoryLoop))
  pub loop_of_two : HasRows (page_before 87 ++ directory page_fields 8)
      (white_at 0 0 ∷ white_at 1 0 ∷ []) (Fault 2 0 (File DirectoryLoop))

-- fields that are missing, which have another type, no value or values outside the file, which have
-- a value that no fax page has, or one that is out of limits
pub record AreFaultsOfFields : Type 0 where
  pub no_fields : IsFileRefused (worked_file [] []) (MissingField 256)
  pub no_width : IsFileRefused (page_without 256) (MissingField 256)
  pub no_length : IsFileRefused (page_without 257) (MissingField 257)
  pub no_compression : IsFileRefused (page_without 259) (MissingField 259)
  pub no_interpretation : IsFileRefused (page_without 262) (MissingField 262)
  pub no_offsets : IsFileRefused (page_without 273) (MissingField 273)
  pub no_byte_counts : IsFileRefused (page_without 279) (MissingField 279)
  pub width_of_another_type : IsFileRefused (page_with (field_of 256 1 1 (four 8))) (BadField 256)
  pub width_without_a_value : IsFileRefused (page_with (field_of 256 3 0 (four 8))) (BadField 256)
  pub lengths_outside : IsFileRefused (page_with (field_of 257 3 3 (four 1000))) (BadField 257)
  pub strips_of_no_rows : IsFileRefused (page_and (short 278 0)) (BadField 278)
  pub bits_of_another_type : IsFileRefused (page_and (field_of 258 5 1 (four 8))) (BadField 258)
  pub compression_of_another_type : IsFileRefused (page_with (field_of 259 1 1 (four 4)))
      (BadField 259)
  pub interpretation_of_another_type : IsFileRefused (page_with (field_of 262 1 1 (four 0)))
      (BadField 262)
  pub order_of_another_type : IsFileRefused (page_and (field_of 266 1 1 (four 1))) (BadField 266)
  pub samples_of_another_type : IsFileRefused (page_and (field_of 277 1 1 (four 1))) (BadField 277)
  pub options_of_another_type : IsFileRefused
      (worked_file (field_of 292 5 1 (four 8) ∷ with (short 259 3) page_fields) []) (BadField 292)
  pub too_few_offsets : IsFileRefused
      (worked_file (short 278 1 ∷ with (short 257 2) page_fields) []) (BadField 273)
  pub byte_counts_of_another_type : IsFileRefused (page_with (field_of 279 5 1 (four 8)))
      (BadField 279)
  pub grey : IsFileRefused (page_and (short 258 8)) (Unsupported 258)
  pub not_compressed : IsFileRefused (page_with (short 259 1)) (Unsupported 259)
  pub lzw : IsFileRefused (page_with (short 259 5)) (Unsupported 259)
  pub rgb : IsFileRefused (page_with (short 262 2)) (Unsupported 262)
  pub order_of_0 : IsFileRefused (page_and (short 266 0)) (Unsupported 266)
  pub third_order : IsFileRefused (page_and (short 266 3)) (Unsupported 266)
  pub three_samples : IsFileRefused (page_and (short 277 3)) (Unsupported 277)
  pub no_pels : IsFileRefused (page_with (short 256 0)) (OutOfLimits 256)
  pub too_wide : IsFileRefused (page_with (long 256 65536)) (OutOfLimits 256)
  pub no_rows : IsFileRefused (page_with (short 257 0)) (OutOfLimits 257)
  pub too_long : IsFileRefused (page_with (long 257 1000001)) (OutOfLimits 257)
  pub first_fault : IsFileRefused (worked_file (with (short 259 5) (without 257 page_fields)) [])
      (MissingField 257)

-- two strips of a row each, the first of which is the byte after the directory
abbrev pub two_strips : ℕ → List ℕ
two_strips second =
    worked_file (short 278 1 ∷ with (short 257 2) (with (both 273 98 second)
    (with (both 279 1 1) page_fields))) same_row

-- strips that lie outside the file, and strips with a fault in the way of a row
pub record AreFaultsOfStrips : Type 0 where
  pub strip_at_the_end : HasRows (page_with (short 273 87)) [] (Fault 0 0 (File StripOutside))
  pub strip_is_cut : HasRows (page_with (short 279 2)) [] (Fault 0 0 (File StripOutside))
  pub second_strip_is_outside : HasRows (two_strips 99) (white_at 0 0 ∷ [])
      (Fault 0 1 (File StripOutside))
  pub no_bytes : HasRows (page_with (short 279 0)) [] (Fault 0 0 (Strip DataEnds))
  pub second_row : HasRows (page_with (short 257 2)) (white_at 0 0 ∷ [])
      (Fault 0 1 (Strip DataEnds))
  pub no_code : HasRows (worked_file page_fields (0x01 ∷ [])) [] (Fault 0 0 (Strip BadCode))

-- the number of a digit, where 97 is the letter a
abbrev pub digit : ℕ → ℕ
digit character = if nat_lt character 97 then character - 48 else character - 87

-- the bytes that a text spells, two digits each, without its blanks
abbrev pub spelled_bytes : List ℕ → List ℕ
spelled_bytes [] = []
spelled_bytes (first ∷ []) = []
spelled_bytes (first ∷ second ∷ text) =
    if first == 32 then spelled_bytes (second ∷ text)
    else (16 * digit first + digit second) ∷ spelled_bytes text

-- the file of a page, big-endian
abbrev pub big_endian : List ℕ
big_endian =
    spelled_bytes (codes "4d4d 002a 00000008 0006"
    ++ codes " 0100 0003 00000001 0008 0000  0101 0003 00000001 0001 0000"
    ++ codes " 0103 0003 00000001 0004 0000  0106 0003 00000001 0000 0000"
    ++ codes " 0111 0004 00000001 00000056  0117 0004 00000001 00000001  00000000 80")

-- files that end properly
pub record AreWholeFiles : Type 0 where
  pub page : HasRows (page_before 0) (white_at 0 0 ∷ []) EndOfPages
  pub highest_byte_first : HasRows big_endian (white_at 0 0 ∷ []) EndOfPages
  pub two_pages : HasRows (page_before 87 ++ directory page_fields 0)
      (white_at 0 0 ∷ white_at 1 0 ∷ []) EndOfPages
  pub strips : HasRows (two_strips 98) (white_at 0 0 ∷ white_at 0 1 ∷ []) EndOfPages
  pub exchanged : HasRows (page_with (short 262 1)) (spelled_row 0 0 (codes "BBBBBBBB")
      ∷ []) EndOfPages
  pub lowest_bit_first : HasRows (worked_file (short 266 2 ∷ with (short 273 98) page_fields)
      (0x01 ∷ []))
      (white_at 0 0 ∷ []) EndOfPages
  pub one_dimensional : HasRows (worked_file (with (short 259 3) page_fields) (0x98 ∷ []))
      (white_at 0 0 ∷ []) EndOfPages
  pub two_dimensional : HasRows
      (worked_file (short 292 1 ∷ with (short 259 3) (with (short 273 98)
      (with (short 279 2) page_fields))) (0x00 ∷ 0x14 ∷ []))
      (white_at 0 0 ∷ []) EndOfPages
  pub first_entry_counts : HasRows
      (worked_file (with (short 273 98) page_fields ++ short 256 9 ∷ []) same_row)
      (white_at 0 0 ∷ []) EndOfPages

-- the file samples/one-mh-page.tif
abbrev pub sample : List ℕ
sample =
    spelled_bytes (codes "4949 2a00 0c00 0000 0018 e000 1000 fe00"
    ++ codes " 0400 0100 0000 0200 0000 0001 0400 0100 0000 0800 0000 0101 0400 0100 0000 0100"
    ++ codes " 0000 0201 0300 0100 0000 0100 0000 0301 0300 0100 0000 0300 0000 0601 0300 0100"
    ++ codes " 0000 0000 0000 0a01 0300 0100 0000 0100 0000 1101 0400 0100 0000 0800 0000 1501"
    ++ codes " 0300 0100 0000 0100 0000 1601 0400 0100 0000 0100 0000 1701 0400 0100 0000 0300"
    ++ codes " 0000 1a01 0500 0100 0000 d200 0000 1b01 0500 0100 0000 da00 0000 2401 0400 0100"
    ++ codes " 0000 0000 0000 2801 0300 0100 0000 0200 0000 2901 0300 0200 0000 0000 0100 0000"
    ++ codes " 0000 cc00 0000 0100 0000 c400 0000 0100 0000")

-- it has one page of one row
pub record IsSampleRead : Type 0 where
  pub bytes : length sample ≡ 226
  pub rows : HasRows sample (spelled_row 0 0 (codes "WWWBBWWW") ∷ []) EndOfPages
  pub forms : HasForms sample
      (record {
        page = 0;
        form = record {
          width = 8;
          rows = 1;
          coding = Mh;
          order = MsbFirst;
          aligned = false;
          exchanged = false;
          rows_per_strip = 1;
          strips = 1;
          x = (204, 1);
          y = (196, 1);
          unit = 2;
        };
      } ∷ []) EndOfPages

-- all of them
pub record AreFilesRead : Type 0 where
  pub headers : AreFaultsOfHeaders
  pub chains : AreFaultsOfChains
  pub fields : AreFaultsOfFields
  pub strips : AreFaultsOfStrips
  pub whole : AreWholeFiles
  pub sample : IsSampleRead
