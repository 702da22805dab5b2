use Rattle.std.proofs.Common.{◌≡◌, ◌∙◌, ◌<◌, ap, length, rules, subst, sym}
use Rattle.lay_reaches.specs.Columns.{column_reach}
use Rattle.lay_reaches.specs.Lanes.{gaps_of}
use Rattle.lay_spans.specs.Columns.{AreMeasures}
use Rattle.lay_tune.specs.Spans.{AreColumnsOf, verses_of}
use Rattle.lay_tune.proofs.Joins.{columns_join}
use Rattle.lay_tune.proofs.Open.{few_lanes}
use Rattle.lay_tune.proofs.layout.lay_out.Goals as goal

pub lay_out_measures-requires : goal.lay_out_measures-requires
lay_out_measures-requires g c =
    let verses : c.as_slice-verses.result.now ≡ verses_of c.args.s.now = search rules in
    let count : length c.as_slice-starts.result.now ≡ c.args.s.now.measures = search rules in (
      search rules,
      record {
        heard = c.requires.heard;
        count = ap (λ these. length these) c.measures_in-measures.ensures.starts ∙ count;
        columns =
            subst (λ others. AreColumnsOf c.args.s.now c.measures_in-measures.result.starts.now others)
            (sym (c.measures_in-measures.ensures.others ∙ c.as_slice-others.ensures))
            (subst (λ starts. AreColumnsOf c.args.s.now starts c.in_ok-further.further)
            (sym (c.measures_in-measures.ensures.starts ∙ c.as_slice-starts.ensures))
            (columns_join c.measures_join.ensures c.args.s.now c.in_ok-columns.columns.starts c.in_ok-further.further
            c.requires.good
            c.in_ok-columns.ensures.starts c.in_ok-further.ensures));
        gaps = c.measures_in-measures.ensures.gaps ∙ c.as_slice-list.ensures ∙ c.in_ok-gaps.ensures.value ∙ ap gaps_of
            verses;
        wide = search rules;
      },
    )

pub measures_in-measures-requires-clause-lanes : goal.measures_in-measures-requires-clause-lanes
measures_in-measures-requires-clause-lanes g c =
    let verses : c.as_slice-verses.result.now ≡ verses_of c.args.s.now = search rules in
    subst (λ gaps. length gaps < 4294967296) (sym c.as_slice-list.ensures)
    (few_lanes c.args.s.now c.as_slice-verses.result.now c.in_ok-gaps.gaps c.requires.good verses
    c.in_ok-gaps.ensures.few)

pub measures_in-measures-requires-clause-measures : goal.measures_in-measures-requires-clause-measures
measures_in-measures-requires-clause-measures g c =
    let verses : c.as_slice-verses.result.now ≡ verses_of c.args.s.now = search rules in
    subst (λ gaps.
    AreMeasures column_reach (length gaps) c.as_slice-starts.result.now c.as_slice-others.result.now)
    (sym (c.as_slice-list.ensures ∙ c.in_ok-gaps.ensures.value ∙ ap gaps_of verses))
    (search rules)
