use Rattle.mus_score.specs.Limits.{head_limit, highest_head}
use Rattle.std.proofs.Common.{◌≡◌, ◌≤◌, ◌-ℤ◌, ◌-◌, ◌*◌, pos, false}
use Rattle.mus_stems.specs.Distances.{level_count}
use Rattle.mus_stems.specs.{Heads.taken, Heads.taken_from, Signs.signs_along}
use Rattle.mus_stems.proofs.signs.sign_all.Given as goal

abbrev pub invariant-loop-n : goal.invariant-loop-n
invariant-loop-n l = record {
  bound : l.k ≤ head_limit * l.n;
  signs : signs_along l.first l.k (taken_from false (pos l.n -ℤ highest_head) (level_count - l.n) l.stands) l.signs
      ≡ signs_along l.first 0 (taken false l.stands) l.fn.signs;
}
