-- The fault of a row that could not be read, where its start is read once more.
use Rattle.fax_page.proofs.StartLaws.{IsStart}
use Rattle.std.proofs.Common.{arith, ◌≡◌, ℕ, ◌+◌, List, Bool, drop}
use Rattle.fax_bits.specs.declared.Colour.{Colour}
use Rattle.fax_bits.specs.declared.FillOrder.{FillOrder}
use Rattle.fax_bits.specs.Reading.{read}
use Rattle.fax_bits.specs.views.Source.{Source, source_of}
use Rattle.fax_rows.specs.declared.RowFault.{RowFault}
use Rattle.fax_page.specs.declared.lines.LineStop.TheVariants.{Codes}
use Rattle.fax_page.specs.Lines.{Dimension, StripFault, StripForm, IsCause}
use Rattle.fax_page.specs.code.Starts.{IsStop}
use Rattle.fax_page.specs.code.LineStops.{IsLineStop}
use Rattle.fax_page.proofs.StartedLemmas.{cause_in_codes}
use Rattle.fax_page.proofs.StartedLemmas.{one_started}

-- the codes after one start are those after another
pub in_codes : (form : StripForm) (i : ℕ) (reference : List Colour) (b : List Bool) (cause : RowFault)
    → IsLineStop form i reference b (Codes cause) → (dimension : Dimension) (codes : List Bool)
    → IsStart form.coding i b (read dimension codes) → (fault : StripFault) → IsStop codes cause fault
    → IsCause form i reference b fault
in_codes form i reference b cause (first, others, origin, stops) dimension codes again fault stop =
    let same = one_started form.coding i b first dimension others codes origin again in
    cause_in_codes form i reference b dimension codes cause fault again stop (rw (same.0, same.1) at stops)

-- a source that is made anew has the bits of the one that stood there
pub bits_again : (order : FillOrder) (bytes : List ℕ) (place : ℕ) (first again there : Source)
    → first ≡ source_of order bytes 0
    → again ≡ record { remaining = drop place first.remaining; place = first.place + place } → there
    ≡ source_of order bytes place
    → there.remaining ≡ again.remaining
bits_again order bytes place first again there begins skips stands = grind arith
