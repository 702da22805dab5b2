use Rattle.std.proofs.Common.{◌≡◌, ◌≢◌, ◌∙◌, ◌<◌, None, Some, IfSome, arith, replicate}
use Rattle.std.proofs.Common.{set, ap, sym, subst}
use Rattle.lay_springs.specs.ReachView.{cut_reach}
use Rattle.lay_reaches.specs.Stands.{stored_reaches}
use Rattle.lay_reaches.proofs.Lone.{lone_known, none_reported, nowhere, others}
use Rattle.lay_reaches.proofs.stands.Reaches.stands.Goals as goal

pub returns : goal.returns
returns c = λ other l.
    let single = c.in-Single.single in
    let reach = c.in-Some.reach in
    let lane : c.in-Ok.lane ≡ single.lane = c.in-Ok.ensures.1 in
    let is : set (replicate single.lanes None) single.lane (Some reach) ≡ c.args.self.now =
    ap (set (replicate single.lanes None) single.lane) (sym c.in-Some.is)
    ∙ sym (ap stored_reaches c.in-Single.is)
    ∙ c.self.view_is in
    rw (lane, c.cut_reach-reach.ensures, ← is)
    (lone_known single.lanes single.lane other reach
    (subst (λ o. IfSome o (λ r. single.lane < single.lanes)) c.in-Some.is single.inside))

pub returns-in_default : goal.returns-in_default
returns-in_default c = λ other l.
    let single = c.in-Single.single in
    let is : set (replicate single.lanes None) single.lane None ≡ c.args.self.now =
    ap (set (replicate single.lanes None) single.lane) (sym c.in_default.is)
    ∙ sym (ap stored_reaches c.in-Single.is)
    ∙ c.self.view_is in
    rw (← is) (none_reported single.lanes single.lane other None (nowhere single.lanes single.lane other))

pub returns-in_default-try_from : goal.returns-in_default-try_from
returns-in_default-try_from c = λ other l.
    let single = c.in-Single.single in
    let far : other ≢ single.lane = λ same. c.in_default-try_from.ensures (omega (arith, same, l)) in
    let is : set (replicate single.lanes None) single.lane (Some c.in-Some.reach) ≡ c.args.self.now =
    ap (set (replicate single.lanes None) single.lane) (sym c.in-Some.is)
    ∙ sym (ap stored_reaches c.in-Single.is)
    ∙ c.self.view_is in
    rw (← is)
    (none_reported single.lanes single.lane other (Some c.in-Some.reach)
    (others single.lanes single.lane other (Some c.in-Some.reach) far))
