use Rattle.std.proofs.Common.{codes}
use Rattle.clap.specs.Matches.{found_of}
use Rattle.fax_tool.proofs.EntryReadLemmas.{flag_read}
use Rattle.fax_tool.proofs.args.ask_for_received.Goals as goal

pub returns : goal.returns
returns c =
    flag_read (found_of c.args.matches.now) (codes "received") c.get_flag.result c.requires c.get_flag.ensures.none
    c.get_flag.ensures.value c.get_flag.ensures.other
