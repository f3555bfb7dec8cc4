use Rattle.std.specs.List.{AllWithin}
use Rattle.std.specs.Str.{IsUtf8}
use Rattle.fax_tool.specs.Grammar.{texts}
use Rattle.fax_tool.proofs.args.see_texts.Given as goal

-- the words that were seen are UTF-8
abbrev pub invariant-loop-word : goal.invariant-loop-word
invariant-loop-word l = AllWithin IsUtf8 (texts l.words) 0 l.word-index
