-- The pages that were added to a file that is being written.
use Rattle.std.specs.Prelude.{◌≡◌, ℕ, List, length}
use Rattle.fax_files.specs.Layout.{WrittenPage, with_pages}
use Rattle.fax_files.specs.views.Writing.{Writing, empty_file}

-- these pages of so many were added, and no more
abbrev pub HasAdded : ℕ → List WrittenPage → Writing → Type 0
HasAdded total pages writing =
    writing ≡ record {
      written = with_pages empty_file total 0 pages;
      total = total;
      added = length pages;
    }
