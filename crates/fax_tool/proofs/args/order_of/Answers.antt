use Rattle.std.proofs.Common.{◌≡◌, ◌∙◌, ap, codes, lit<, refl, sym, ℕ, Option}
use Rattle.std.specs.Prelude.{unwrap_or}
use Rattle.std.proofs.lemmas.Bool.{ne_eqb}
use Rattle.clap.specs.Matches.{found_of}
use Rattle.fax_bits.specs.declared.FillOrder.TheVariants.{LsbFirst, MsbFirst}
use Rattle.fax_tool.specs.code.CommandEntries.{entries_of, given_by}
use Rattle.fax_tool.specs.Job.{number_in, order_by}
use Rattle.fax_tool.proofs.EntryReadLemmas.{u32_read}
use Rattle.fax_tool.proofs.args.order_of.Goals as goal
use Rattle.fax_tool.proofs.args.order_of.Goals.{After-unwrap_or-order}

read : (c : After-unwrap_or-order)
    → c.unwrap_or-order.result ≡ unwrap_or (number_in (codes "order") (given_by (entries_of c.args.matches.now))) 1
read c =
    c.unwrap_or-order.ensures
    ∙ ap (λ o. unwrap_or o 1) (u32_read (found_of c.args.matches.now) (codes "order") 2 c.get_one.result c.requires
    (lit< tt)
    c.get_one.ensures.none c.get_one.ensures.value)

last_first : (o : Option ℕ) → unwrap_or o 1 ≡ 2 → LsbFirst ≡ order_by o
last_first o two = rw two refl

usual : (o : Option ℕ) → (unwrap_or o 1 ≡ 2 → ⊥) → MsbFirst ≡ order_by o
usual o other = rw (ne_eqb (unwrap_or o 1) 2 other) refl

pub returns-then-order-eq2 : goal.returns-then-order-eq2
returns-then-order-eq2 c = last_first (number_in (codes "order") (given_by (entries_of c.args.matches.now)))
    (sym (read (goal.at.returns-then-order-eq2 c).After-unwrap_or-order) ∙ c.if-order-eq2.true)

pub returns-else-order-eq2 : goal.returns-else-order-eq2
returns-else-order-eq2 c = usual (number_in (codes "order") (given_by (entries_of c.args.matches.now)))
    (λ two. c.if-order-eq2.false (read (goal.at.returns-else-order-eq2 c).After-unwrap_or-order ∙ two))
