-- One more of what is counted.
use Rattle.mus_score.specs.Limits.{highest_head}
use Rattle.std.proofs.Common.{◌≡◌, ℕ, suc, ◌+◌, ◌-◌, ◌<◌, ℤ, pos, ◌-ℤ◌, ◌+ℤ◌, Bool, List, [], ◌∷◌, ◌++◌, Option, refl}
use Rattle.std.proofs.Common.{sym, ap, ◌∙◌, append_assoc, arith, false}
use Rattle.std.proofs.lemmas.Int.{ints}
use Rattle.mus_stems.specs.declared.heads.HeadPosition.{HeadPosition}
use Rattle.mus_stems.specs.declared.heads.LastHead.{LastHead}
use Rattle.mus_stems.specs.Distances.{level_count}
use Rattle.mus_stems.specs.Heads.{shifted, Taken, taken_at, taken_from}
use Rattle.mus_stems.specs.Signs.{signs_along}
use Rattle.mus_stems.specs.Ledgers.{ledger_lines}
use Rattle.mus_stems.specs.Dots.{dot_at, dots_at}

pub one_less : (k n : ℕ) → k < n → n - k ≡ suc (n - (k + 1))
one_less k n lt = omega arith

pub lines_step : (line : ℕ → ℤ) (k n : ℕ)
    → k < n → ledger_lines line k (n - k) ≡ line k ∷ ledger_lines line (k + 1) (n - (k + 1))
lines_step line k n lt = rw (one_less k n lt) refl

pub dots_step : (first dy : ℤ) (k n : ℕ)
    → k < n → dots_at first dy k (n - k) ≡ dot_at first dy k ∷ dots_at first dy (k + 1) (n - (k + 1))
dots_step first dy k n lt = rw (one_less k n lt) refl

pub taken_step : (up : Bool) (n : ℕ) (ss : List HeadPosition) → n < level_count →
    taken_from up (pos n -ℤ highest_head) (level_count - n) ss
    ≡ taken_at up (pos n -ℤ highest_head) 0 ss (taken_from up (pos (n + 1) -ℤ highest_head) (level_count - (n + 1)) ss)
taken_step up n ss lt =
    let e : (pos n -ℤ highest_head) +ℤ pos 1 ≡ pos (n + 1) -ℤ highest_head = omega (arith, ints) in
    rw (one_less n level_count lt, e) refl

-- a push takes the first of the rest
pub pushed : {A : Type 0} (out new whole : List A) (x y : A) (more rest : List A) →
    new ≡ out ++ x ∷ [] → x ≡ y → rest ≡ y ∷ more → out ++ rest ≡ whole → new ++ more ≡ whole
pushed out new whole x y more rest e f g h =
    ap (λ t. t ++ more) (e ∙ ap (λ t. out ++ t ∷ []) f)
    ∙ append_assoc out (y ∷ []) more
    ∙ ap (λ t. out ++ t) (sym g)
    ∙ h

pub shift_step : (up : Bool) (n : ℕ) (ss : List HeadPosition) (dx v : ℤ) (last next : Option LastHead)
    (shifts new whole : List ℤ)
    → n < level_count → v ≡ pos n -ℤ highest_head
    → ((rest : List Taken) → shifted dx next rest new ≡ shifted dx last (taken_at up v 0 ss rest) shifts) →
    shifted dx last (taken_from up (pos n -ℤ highest_head) (level_count - n) ss) shifts ≡ whole →
    shifted dx next (taken_from up (pos (n + 1) -ℤ highest_head) (level_count - (n + 1)) ss) new ≡ whole
shift_step up n ss dx v last next shifts new whole lt e m inv =
    let rest = taken_from up (pos (n + 1) -ℤ highest_head) (level_count - (n + 1)) ss in
    m rest
    ∙ ap (λ t. shifted dx last (taken_at up t 0 ss rest) shifts) e
    ∙ ap (λ t. shifted dx last t shifts) (sym (taken_step up n ss lt))
    ∙ inv

pub sign_step : (n : ℕ) (ss : List HeadPosition) (first v : ℤ) (k next : ℕ) (signs new whole : List (Option ℤ))
    → n < level_count → v ≡ pos n -ℤ highest_head
    → ((rest : List Taken) → signs_along first next rest new ≡ signs_along first k (taken_at false v 0 ss rest) signs) →
    signs_along first k (taken_from false (pos n -ℤ highest_head) (level_count - n) ss) signs ≡ whole →
    signs_along first next (taken_from false (pos (n + 1) -ℤ highest_head) (level_count - (n + 1)) ss) new ≡ whole
sign_step n ss first v k next signs new whole lt e m inv =
    let rest = taken_from false (pos (n + 1) -ℤ highest_head) (level_count - (n + 1)) ss in
    m rest
    ∙ ap (λ t. signs_along first k (taken_at false t 0 ss rest) signs) e
    ∙ ap (λ t. signs_along first k t signs) (sym (taken_step false n ss lt))
    ∙ inv
