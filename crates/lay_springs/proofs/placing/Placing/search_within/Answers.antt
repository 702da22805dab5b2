use Rattle.std.proofs.{Common.{◌≡◌, ◌+◌, ◌-◌, arith, inl, inr, ◌∙◌}, lemmas.Bool.cases_lt}
use Rattle.lay_springs.proofs.Longer.{stands}
use Rattle.lay_springs.proofs.Made.{passes_at_none}
use Rattle.lay_springs.proofs.placing.Placing.search_within.Goals as goal

pub loop-low-preserved-in-None : goal.loop-low-preserved-in-None
loop-low-preserved-in-None g c =
    let i = c.loop-low.invariant in
    let tried = c.highest-force.ensures in
    let half = c.div_ceil-half.ensures in record {
      between = let h = tried.high in omega arith;
      within = i.within;
      few = let a = tried.above in omega arith;
      short = let s = i.short in omega arith;
      same = c.too_great.ensures.columns ∙ i.same;
      at = c.too_great.ensures.at ∙ i.at;
      front = c.too_great.ensures.front ∙ i.front;
      placed = rw i.same at c.too_great.ensures.placed;
      fits = λ _. let e : c.highest-force.result + 1 - 1 ≡ c.highest-force.result = omega arith in
          rw (← i.same, e) c.in-None.ensures.fits;
      never = i.never;
    }

pub loop-low-preserved : goal.loop-low-preserved
loop-low-preserved g c =
    let i = c.loop-low.invariant in let tried = c.highest-force.ensures in let less = c.in-Some.ensures.below in
    let half = c.div_ceil-half.ensures in record {
      between = elim (cases_lt c.in-Some.past c.loop-low.low) [
        | inl under ↦
            absurd (c.in-Some.ensures.never (c.loop-low.low - 1) (omega arith) (omega arith)
            (rw (← i.same) at (stands _ _ _ _ _ _ (i.fits (omega arith)))))
        | inr above ↦ above
      ];
      within = let h = tried.high in let w = i.within in omega arith;
      few = let b = tried.below in omega arith;
      short = let s = i.short in omega arith;
      same = c.too_great.ensures.columns ∙ i.same;
      at = c.too_great.ensures.at ∙ i.at;
      front = c.too_great.ensures.front ∙ i.front;
      placed = rw i.same at c.too_great.ensures.placed;
      fits = i.fits;
      never = λ f from within stood.
          c.in-Some.ensures.never f from (let most = c.requires.most in omega arith) (rw (← i.same) at stood);
    }

pub returns-clause-greatest : goal.returns-clause-greatest
returns-clause-greatest g c =
    let i = c.loop-low.invariant in
    let done = c.loop-low-test.false in
    let some = c.if-low-eq0.false in record {
      bound = let within = i.within in let between = i.between in omega arith;
      fits = i.fits (omega arith);
      greatest = λ f past within stood. i.never f (omega arith) within stood;
      none = tt;
    }

pub returns-then-low-eq0-clause-greatest : goal.returns-then-low-eq0-clause-greatest
returns-then-low-eq0-clause-greatest g c = record {
  bound = tt;
  fits = tt;
  greatest = tt;
  none =
      passes_at_none g.C.Spaced.reach_of g.C.Spring.length_of c.args.self.now.columns.cols.now
      c.args.self.now.columns.gaps.list.now
      c.args.width
      c.args.self.now.columns.some
      (λ col lane l. g.met.C.Spaced.is_near col lane (let few = c.args.self.now.columns.gaps.lanes in omega arith))
      c.args.self.now.columns.gaps.narrow
      (λ col. g.met.C.Spring.is_short col 0 (omega arith))
      (c.loop-low.invariant.never 0
      (let done = c.loop-low-test.false in let none = c.if-low-eq0.true in omega arith) (omega arith));
}

pub loop-low-init : goal.loop-low-init
loop-low-init g c =
    let most = c.requires.most in
    let bound = c.first_past-high.ensures.bound in
    record {
      between = omega arith;
      within = bound;
      few = omega arith;
      short = omega arith;
      same = c.first_past-high.ensures.columns;
      at = c.first_past-high.ensures.at;
      front = c.first_past-high.ensures.front;
      placed = c.first_past-high.ensures.placed;
      fits = λ some. absurd (omega arith);
      never = c.first_past-high.ensures.never;
    }
