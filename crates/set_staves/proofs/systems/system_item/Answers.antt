use Rattle.std.{proofs.Common.{◌≡◌, length, sym, subst, rules, arith}, specs.List.All}
use Rattle.mus_laid.specs.declared.laid.StaffMarks.{StaffMarks}
use Rattle.law_marks_in_range.specs.Ranks.{AreAnchored, AreMarksRanked, staves_ranks}
use Rattle.set_staves.proofs.Ranged.{good_system}
use Rattle.set_staves.proofs.Shown.{shows_call}
use Rattle.set_staves.specs.Marks.{ShowsCall, staves_at}
use Rattle.set_staves.proofs.systems.system_item.Goals as goal

pub returns-clause-good : goal.returns-clause-good
returns-clause-good c =
    let is : c.in_ok-staves.staves ≡ staves_at c.args.width c.args.at.now c.args.top c.args.m.now.staves
    c.args.bases.now = search rules in
    good_system c.args.width c.args.at.now c.args.top c.args.m.now.a c.args.m.now.b c.args.m.now.staves c.args.bases.now
    c.in_ok-staves.staves
    c.requires.heights c.requires.shown.rises (search arith) c.requires.shown.staves c.requires.bases is
    c.in_ok-staves.ensures.good

pub returns-clause-shows : goal.returns-clause-shows
returns-clause-shows c =
    let is : c.in_ok-staves.staves ≡ staves_at c.args.width c.args.at.now c.args.top c.args.m.now.staves
    c.args.bases.now = search rules in
    let ranked : All (λ (s : StaffMarks). AreMarksRanked (length c.args.at.now) s.marks) c.args.m.now.staves =
    subst (λ n. All (λ (s : StaffMarks). AreMarksRanked n s.marks) c.args.m.now.staves) (sym c.requires.count)
    c.requires.shown.ranked in
    let anchored : AreAnchored (length c.args.at.now) (staves_ranks c.args.m.now.staves) =
    subst (λ n. AreAnchored n (staves_ranks c.args.m.now.staves)) (sym c.requires.count) c.requires.shown.anchored in
    subst (λ t. ShowsCall t c.args.m.now.staves) (sym is)
    (shows_call c.args.width c.args.at.now c.args.top c.args.m.now.staves c.args.bases.now c.requires.rise
    c.requires.bases ranked anchored)
