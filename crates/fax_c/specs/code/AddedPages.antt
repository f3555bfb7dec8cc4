-- One step of the writing of a page.
use Rattle.std.specs.Prelude.{ℕ, ◌==◌, if◌then◌else◌}
use Rattle.fax_c.specs.declared.writing.FaxWritten.{FaxWritten}

-- where a file that is written continues, and where the offset of the next directory stands
abbrev pub place_of : FaxWritten → ℕ × ℕ
place_of written = if written.added == 0 then (8, 4) else (written.len, written.link)
