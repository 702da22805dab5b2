use Rattle.std.proofs.Common.{◌≡◌, ◌++◌, None, drop}
use Rattle.std.specs.Prelude.{flat_map}
use Rattle.std.specs.List.{list_any}
use Rattle.abc_steps.specs.Force.{changes_at}
use Rattle.abc_signs.specs.Waits.{decos_in, mentions_in, graces_in, has_slash, last_ending}
use Rattle.abc_signs.proofs.waits.gathered.Given as goal

abbrev pub invariant-loop-s : goal.invariant-loop-s
invariant-loop-s l = record {
  changes : l.waiting.changes ≡ changes_at l.now l.waits;
  decos : l.waiting.decos ++ flat_map (λ s. decos_in s.step) (drop l.s-index l.waits)
      ≡ flat_map (λ s. decos_in s.step) l.waits;
  mentions : l.waiting.mentions ++ flat_map (λ s. mentions_in s.step) (drop l.s-index l.waits)
      ≡ flat_map (λ s. mentions_in s.step) l.waits;
  ending : last_ending l.waiting.ending (drop l.s-index l.waits) ≡ last_ending None l.waits;
  graces : l.waiting.graces ++ flat_map (λ s. graces_in s.step) (drop l.s-index l.waits)
      ≡ flat_map (λ s. graces_in s.step) l.waits;
  slash : l.waiting.slash ≡ list_any (λ s. has_slash s.step) l.waits;
}
