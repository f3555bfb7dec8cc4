use Rattle.std.proofs.Common.{◌+◌, ◌-◌, ◌∙◌, ap, take}
use borrow.Rule.Slice.PartMut.{put_mid}
use Rattle.fax_tool.proofs.RememberedLemmas.{short_put}
use Rattle.fax_tool.proofs.text.number_cache.put_short.Goals as goal

pub returns-clause-written : goal.returns-clause-written
returns-clause-written c =
    let at = c.args.at in
    ap (λ more. take (at + c.args.text.len) (put_mid at (at + 8 - at) c.args.bytes.now more))
    c.copy_from_slice.ensures.after
    ∙ short_put c.args.bytes.now c.args.text.bytes at (at + 8 - at) c.args.text.len c.requires.eight c.requires.few
    c.requires.room
