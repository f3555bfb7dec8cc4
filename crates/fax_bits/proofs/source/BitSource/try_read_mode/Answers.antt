use Rattle.std.specs.Prelude.{pos}
use Rattle.fax_bits.specs.declared.mode_codes.ModeCode.TheVariants.{Vertical}
use Rattle.fax_bits.specs.Tables.{modes}
use Rattle.fax_bits.proofs.LookUpLemmas.{begins_more, code_begins, code_taken}
use Rattle.std.proofs.Common.{◌/◌, ◌^◌, inl, refl, arith}
use Rattle.fax_bits.specs.Bits.{code_bits}
use Rattle.fax_bits.specs.code.TableLaws.{modes_has_short_codes}
use Rattle.fax_bits.proofs.AheadLemmas.{after_ahead, fits_in_number, looked_up, one_looked_up}
use Rattle.fax_bits.proofs.source.BitSource.try_read_mode.Goals as goal

pub invariant_of-self : goal.invariant_of-self
invariant_of-self g c =
    let after = c.after-self-inside in
    after_ahead c.self.inside.order c.self.inside.bytes.now c.self.inside.window after.result 1 c.self.invariant
    (after.ensures.ahead c.self.inside.order c.self.inside.bytes.now) after.ensures.count after.ensures.at

pub returns-then-begins_with_one : goal.returns-then-begins_with_one
returns-then-begins_with_one g c =
    let order = c.self.inside.order in
    let bytes = c.self.inside.bytes.now in
    let is =
    one_looked_up order bytes c.self.inside.window c.self.inside.window c.args.self.now c.self.invariant c.self.view_is
    refl refl
    c.self.invariant.within c.after-self-inside.result (c.if-begins_with_one.ensures.ahead refl order bytes)
    c.after-self-inside.ensures.count c.after-self-inside.ensures.at in
    record {
      takes = code_taken modes c.args.self.now (Vertical (pos 0)) _ is;
      unchanged = λ none. cc;
      same_end = is.same_end;
      shorter = λ some. is.shorter;
    }

pub after-self-inside-requires-2 : goal.after-self-inside-requires-2
after-self-inside-requires-2 g c =
    let origin = begins_more _ c.number.result c.in_ok-len.len c.in_ok-len.mode
    (code_begins modes (code_bits 13 (c.number.result / 2 ^ 19)) c.in_ok-len.len c.in_ok-len.mode modes_has_short_codes
    c.in_ok-len.ensures) in
    let short = fits_in_number 32 c.number.result origin in
    record { loaded = omega (arith, short, c.in_ok-self-inside.ensures.many); short = omega (arith, short) }

pub returns : goal.returns
returns g c =
    let w = c.in_ok-self-inside in
    let after = c.after-self-inside-2 in
    let origin = begins_more _ c.number.result c.in_ok-len.len c.in_ok-len.mode
    (code_begins modes (code_bits 13 (c.number.result / 2 ^ 19)) c.in_ok-len.len c.in_ok-len.mode modes_has_short_codes
    c.in_ok-len.ensures) in
    let is =
    looked_up _ _ _ w.field-0 _ c.self.invariant c.self.view_is w.ensures.ahead w.ensures.place w.ensures.within 32
    (omega arith) w.ensures.many _ (c.number.ensures.number _ _ (inl w.ensures.many)) origin after.result
    after.ensures.count after.ensures.at in
    record {
      takes = code_taken modes c.args.self.now c.in_ok-len.mode _ is;
      unchanged = λ none. cc;
      same_end = is.same_end;
      shorter = λ some. is.shorter;
    }
