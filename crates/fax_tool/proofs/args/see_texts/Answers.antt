use Rattle.std.proofs.Common.{◌∙◌, subst, sym}
use Rattle.std.specs.Str.{IsUtf8}
use Rattle.std.proofs.lemmas.List.{get_or-map}
use Rattle.std.proofs.lemmas.List.Elements.{AllWithin-more}
use Rattle.fax_tool.specs.Grammar.{texts}
use Rattle.fax_tool.proofs.args.see_texts.Goals as goal

pub loop-word-preserved : goal.loop-word-preserved
loop-word-preserved c =
    let words = c.args.words.now in
    let seen = c.as_bytes-seen.ensures in
    AllWithin-more IsUtf8 (texts words) 0 c.loop-word.word-index c.loop-word.invariant (λ d.
    subst IsUtf8 (seen.value ∙ sym (get_or-map (λ word. word.now) words c.loop-word.word-index _ d
    c.loop-word-test.true)) seen.utf8)
