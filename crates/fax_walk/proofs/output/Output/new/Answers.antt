use Rattle.std.proofs.Common.{◌≡◌, Some}
use Rattle.fax_walk.specs.code.Output.{coding_of}
use Rattle.fax_walk.proofs.OutputLemmas.{file_started}
use Rattle.fax_walk.proofs.output.Output.new.Goals as goal

pub returns : goal.returns
returns c =
    let coding_is : coding_of c.args.options.now.target ≡ Some c.in-Some.coding = cc (c.coding.ensures, c.in-Some.is) in
    file_started c.args.options.now c.in-Some.coding c.in_ok-writer.writer coding_is c.in_ok-writer.ensures
