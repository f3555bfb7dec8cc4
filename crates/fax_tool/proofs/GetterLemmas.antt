-- What a getter of texts reads of the entries.
use Rattle.std.proofs.Common.{arith, ◌≡◌, ◌∙◌, ap, codes, sym, Option, Some, None, Result}
use Rattle.std.specs.Prelude.{◌≢◌, IfErr, OnErr, option_map}
use Rattle.std.specs.Result.{IsErrAnd}
use Rattle.fax_walk.specs.declared.long_cursor.LongFault.{LongFault}
use Rattle.fax_walk.specs.declared.long_cursor.LongFault.TheVariants.{NotACursor as NoLongCursor}
use Rattle.fax_tool.specs.declared.args.WordsFault.{WordsFault}
use Rattle.fax_tool.specs.declared.args.WordsFault.TheVariants.{NotACursor, Usage}
use Rattle.fax_tool.proofs.GrammarLemmas.{names_differ}
use Rattle.fax_tool.specs.Job.{target_of}
use Rattle.std.specs.Borrow.{Bor}
use Rattle.clap.specs.Walk.{Text, first_of, rows_of}
use Rattle.clap.specs.Matches.{first_value}
use Rattle.clap.specs.declared.parser.matches.Found.{Found}
use Rattle.clap.proofs.WalkLemmas.{first_value-rows}

pub text_given : (f : Found) (name : Text) (r : Option (Bor Text)) (t : Bor Text)
    → option_map (λ s. s.now) r ≡ first_value f name
    → r ≡ Some t
    → first_of name (rows_of f) ≡ Some t.now
text_given f name r t e is = sym (first_value-rows f name) ∙ (sym e ∙ ap (option_map (λ s. s.now)) is)

pub none_given : (f : Found) (name : Text) (r : Option (Bor Text)) → option_map (λ s. s.now) r ≡ first_value f name
    → r ≡ None
    → first_of name (rows_of f) ≡ None
none_given f name r e is = sym (first_value-rows f name) ∙ (sym e ∙ ap (option_map (λ s. s.now)) is)

-- a text that is none of the four words names no target
pub no_target : (t : Text) → (t ≡ codes "pbm" → ⊥) → (t ≡ codes "mh" → ⊥) → (t ≡ codes "mr" → ⊥) → (t ≡ codes "mmr" → ⊥)
    → target_of t ≡ None
no_target t pbm mh mr mmr = grind (arith, names_differ)

pub on_err : {T E P : Type 0} (r : Result T E) → P → OnErr r P
on_err r p = grind arith

-- a fault of a long cursor's text is no usage
pub long_err : {T Q : Type 0} (r : Result T WordsFault) (e : LongFault)
    → IsErrAnd r (λ gives. (gives ≢ Usage) × (gives ≡ NotACursor → e ≡ NoLongCursor)) → (e ≡ NoLongCursor → Q)
    → IfErr r (λ fault. (fault ≢ Usage) × (fault ≡ NotACursor → Q))
long_err r e gives q = grind arith
