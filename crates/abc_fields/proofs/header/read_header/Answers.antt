use Rattle.std.proofs.lemmas.Result.{IfOk-weaker, IfErr-weaker}
use Rattle.abc_fields.specs.{FileHeader.AreStavesOf, HeaderFaults.{IsClearHeader, IsHeaderRefusal}}
use Rattle.abc_fields.proofs.{FaultLaws.{header-clear, header-refusal}, FileHeaderLaws.header_staves}
use Rattle.abc_fields.proofs.OneHeader.{only_value, only_fault}
use Rattle.abc_fields.proofs.ValueLaws.{header_values}
use Rattle.abc_fields.specs.HeaderValues.{AreValuesOf}
use Rattle.abc_lines.specs.Results.{IsOnlyFault}
use Rattle.abc_fields.specs.Headers.{IsHeaderResult}
use Rattle.abc_fields.proofs.header.read_header.Goals as goal

pub returns-clause-clear : goal.returns-clause-clear
returns-clause-clear c =
    let tune = c.args.tune.now in
    IfOk-weaker c.tune_header.result _ (λ _. IsClearHeader tune) (λ _ h. header-clear tune h) c.tune_header.ensures.none

pub returns-clause-first : goal.returns-clause-first
returns-clause-first c =
    let tune = c.args.tune.now in
    IfErr-weaker c.tune_header.result _ (IsHeaderRefusal tune) (header-refusal tune) c.tune_header.ensures.fault

pub returns-clause-values : goal.returns-clause-values
returns-clause-values c =
    let tune = c.args.tune.now in
    let defaults = c.args.defaults.now in
    IfOk-weaker c.tune_header.result _ (λ header. AreValuesOf tune defaults header) (header_values tune defaults)
    c.tune_header.ensures.value

pub returns-clause-staves : goal.returns-clause-staves
returns-clause-staves c =
    let tune = c.args.tune.now in
    let defaults = c.args.defaults.now in
    IfOk-weaker c.tune_header.result _ (λ header. AreStavesOf tune defaults header.staves) (header_staves tune defaults)
    c.tune_header.ensures.value

pub returns-clause-only : goal.returns-clause-only
returns-clause-only c =
    only_value c.args.tune.now c.args.defaults.now c.tune_header.result c.tune_header.ensures.value
    c.tune_header.ensures.none

pub returns-clause-only_fault : goal.returns-clause-only_fault
returns-clause-only_fault c =
    let tune = c.args.tune.now in let defaults = c.args.defaults.now in
    IfErr-weaker c.tune_header.result _ (IsOnlyFault (IsHeaderResult tune defaults)) (only_fault tune defaults)
    c.tune_header.ensures.fault
