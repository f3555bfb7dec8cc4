-- How a row begins, as it is read and as it is defined.
use Rattle.std.proofs.Common.{◌≡◌, ℕ, List, Bool, sym, ◌∙◌, inl, inr}
use Rattle.fax_bits.specs.Reading.{Read, read, failed}
use Rattle.fax_rows.specs.declared.RowFault.{RowFault}
use Rattle.fax_bits.specs.declared.Colour.{Colour}
use Rattle.fax_page.specs.declared.Dimension.{Dimension}
use Rattle.fax_page.specs.declared.Coding.{Coding}
use Rattle.fax_page.specs.declared.StripForm.{StripForm}
use Rattle.fax_page.specs.declared.StripFault.{StripFault}
use Rattle.fax_page.specs.Lines.{IsCause, read_codes}
use Rattle.fax_page.specs.code.Starts.{IsStop}
use Rattle.fax_page.proofs.LineParts.{IsStopInCodes, cause_of}
use Rattle.fax_page.proofs.StartLaws.{IsStart}

-- a row begins in one way
pub one_start : (coding : Coding) (i : ℕ) (b : List Bool) (start another : Read Dimension StripFault)
    → IsStart coding i b start → IsStart coding i b another → start ≡ another
one_start coding i b start another first second = sym first ∙ second

pub one_started : (coding : Coding) (i : ℕ) (b : List Bool) (dimension another : Dimension) (codes others : List Bool)
    → IsStart coding i b (read dimension codes) → IsStart coding i b (read another others)
    → (dimension ≡ another) × (codes ≡ others)
one_started coding i b dimension another codes others first second = (cc (first, second), cc (first, second))

-- codes that stop
pub stop_is : (dimension : Dimension) (width : ℕ) (reference : List Colour) (b : List Bool) (cause : RowFault)
    (fault : StripFault)
    → IsStop b cause fault → read_codes dimension width reference b ≡ failed cause
    → IsStopInCodes dimension width reference b fault
stop_is dimension width reference b cause fault (inl none) in_codes = inl none
stop_is dimension width reference b cause fault (inr at) in_codes = inr (at.0, cause, in_codes, at.1)

-- the cause in codes
pub cause_in_codes : (form : StripForm) (i : ℕ) (reference : List Colour) (b : List Bool) (dimension : Dimension)
    (codes : List Bool)
    (cause : RowFault) (fault : StripFault)
    → IsStart form.coding i b (read dimension codes) → IsStop codes cause fault
    → read_codes dimension form.width reference codes ≡ failed cause
    → IsCause form i reference b fault
cause_in_codes form i reference b dimension codes cause fault start stop in_codes =
    cause_of form i reference b fault (inr (
      dimension,
      codes,
      start,
      stop_is dimension form.width reference codes cause fault stop in_codes,
    ))
