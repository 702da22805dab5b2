use Rattle.ps_machine.proofs.NamesLemmas.{names_defined}
use Rattle.ps_machine.proofs.definitions.Definitions.define.Goals as goal

pub returns : goal.returns
returns c =
    names_defined c.args.self.now (record { bodies = c.insert.new.self }) c.args.name.now c.args.body
    c.in_ok-insert.ensures.updates
