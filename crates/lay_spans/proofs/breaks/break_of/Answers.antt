use Rattle.std.proofs.Common.{◌≡◌, ◌≤◌, ℕ, Bool, Option, IfOk, IfErr, None, slice_index_or, false, subst}
use Rattle.std.proofs.Math.Path.{fun_ext}
use Rattle.lay_breaks.specs.Answers.{IsCause}
use Rattle.lay_breaks.specs.Breaking.{IsChosen, sum_from, IsPotential}
use Rattle.lay_breaks.specs.Spans.{listed}
use Rattle.lay_rows.specs.Costs.{cost_in}
use Rattle.lay_spans.specs.Forced.{is_forced}
use Rattle.lay_spans.proofs.breaks.break_of.Goals.{After-least}
use Rattle.lay_spans.proofs.breaks.break_of.Goals as goal

-- what holds of the rows and the marks holds of the list and the forced bars
over_list : (c : After-least) (P : (ℕ → ℕ → Option ℕ) → (ℕ → Bool) → Type 0)
    → P (λ a b. cost_in c.args.spans.now.rows.rows a b) (λ b. slice_index_or c.in-Ok.marks b false)
    → P (listed c.args.spans.now.list) (is_forced c.args.n c.args.forced.now)
over_list c P h =
    subst (λ cost. P cost (is_forced c.args.n c.args.forced.now))
    (fun_ext (λ a. fun_ext (λ b. c.args.spans.now.same a b)))
    (subst (λ forced. P (λ a b. cost_in c.args.spans.now.rows.rows a b) forced) (fun_ext (λ b. c.in-Ok.ensures.each b))
    h)

pub returns-clause-chosen : goal.returns-clause-chosen
returns-clause-chosen c =
    over_list (goal.at.returns-clause-chosen c).After-least
    (λ cost forced. IfOk c.least.result (λ b. IsChosen cost forced c.args.n b.breaks)) c.least.ensures.chosen

pub returns-clause-total : goal.returns-clause-total
returns-clause-total c =
    over_list (goal.at.returns-clause-total c).After-least
    (λ cost forced. IfOk c.least.result (λ b. b.total ≡ sum_from cost 0 b.breaks)) c.least.ensures.total

pub returns-clause-potentials : goal.returns-clause-potentials
returns-clause-potentials c =
    over_list (goal.at.returns-clause-potentials c).After-least
    (λ cost forced.
    IfOk c.least.result (λ b. (i : ℕ) → i ≤ c.args.n → IsPotential cost forced i (slice_index_or b.potentials i None)))
    c.least.ensures.potentials

pub returns-clause-no_way : goal.returns-clause-no_way
returns-clause-no_way c =
    over_list (goal.at.returns-clause-no_way c).After-least
    (λ cost forced. IfErr c.least.result (λ e. IsCause cost forced c.args.n e)) c.least.ensures.no_way
