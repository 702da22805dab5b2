-- A single head is not displaced, and if no head has an accidental none is placed.
use Rattle.std.proofs.Common.{◌≡◌, ℕ, zero, suc, ◌≤◌, ◌<◌, inl, ℤ, pos, Bool, true, false, List, [], ◌∷◌, length}
use Rattle.std.proofs.Common.{replicate, slice_index_or, refl, sym, ◌∙◌, ap, Option, Some, None, arith}
use Rattle.std.proofs.lemmas.Bool.{or_parts}
use Rattle.std.proofs.lemmas.Int.{ints}
use Rattle.std.specs.Prelude.{slice_get, if◌then◌else◌}
use Rattle.std.specs.List.{AllByRecursion, list_any}
use Rattle.mus_stems.specs.declared.heads.HeadPosition.{HeadPosition}
use Rattle.mus_stems.specs.Heads.{AllNear, Taken, taken, gives_way, shifted, head_shift, shifts_of}
use Rattle.mus_stems.specs.Signs.{sign_dx, signs_along, signs_from}
use Rattle.mus_stems.specs.Order.{head_at, IsHead, IsAmong, AreTaken}
use Rattle.mus_stems.proofs.OrderLaws.{taken_are, one_order}

none_taken : (up : Bool) → AreTaken up [] []
none_taken up = record { order = tt; only = tt; all = λ k s is. absurd (grind (arith, is)) }

alone_among : (up : Bool) (d : HeadPosition) (k : ℕ) (s : HeadPosition)
    → slice_get (d ∷ []) k ≡ Some s → IsAmong (head_at up 0 d ∷ []) (head_at up k s)
alone_among up d zero s is = inl (ap (head_at up 0) (grind (arith, is)))
alone_among up d (suc k) s is = absurd (grind (arith, is))

alone_taken : (up : Bool) (d : HeadPosition) → AreTaken up (d ∷ []) (head_at up 0 d ∷ [])
alone_taken up d = record { order = (tt, tt); only = ((d, refl, refl), tt); all = alone_among up d }

alone_placed : (first : ℤ) (signed : Bool)
    → (if signed then Some (sign_dx first 0) ∷ [] else None ∷ []) ≡ (if signed then Some first else None) ∷ []
unfolding sign_dx
alone_placed first true = ap (λ x. Some x ∷ []) (omega (arith, ints))
alone_placed first false = refl

pub alone_stays : (up : Bool) (ss : List HeadPosition)
    → AllNear ss → length ss ≤ 1 → shifts_of up ss ≡ replicate (length ss) (pos 0)
unfolding shifts_of gives_way
alone_stays up [] near few =
    ap (λ ts. shifted (head_shift up) None ts [])
    (one_order up [] (taken up []) [] (taken_are up [] near) (none_taken up))
alone_stays up (d ∷ []) near few =
    ap (λ ts. shifted (head_shift up) None ts (pos 0 ∷ []))
    (one_order up (d ∷ []) (taken up (d ∷ [])) (head_at up 0 d ∷ []) (taken_are up (d ∷ []) near) (alone_taken up d))
alone_stays up (d ∷ e ∷ ss) near few = absurd (omega (arith, few))

-- the accidental of a single head is in the first column
pub alone_signed : (first : ℤ) (ss : List HeadPosition) (e : HeadPosition)
    → AllNear ss → 1 ≤ length ss → length ss < 2
    → (if (slice_index_or ss 0 e).signed then Some first else None) ∷ [] ≡ signs_from first ss
unfolding signs_from
alone_signed first [] e near some few = absurd (omega (arith, some))
alone_signed first (d ∷ []) e near some few =
    sym (ap (λ ts. signs_along first 0 ts (None ∷ []))
    (one_order false (d ∷ []) (taken false (d ∷ [])) (head_at false 0 d ∷ []) (taken_are false (d ∷ []) near)
    (alone_taken false d))
    ∙ alone_placed first d.signed)
alone_signed first (d ∷ b ∷ ss) e near some few = absurd (omega (arith, few))

unsigned : (ss : List HeadPosition) (k : ℕ) (s : HeadPosition)
    → list_any (λ d. d.signed) ss ≡ false → slice_get ss k ≡ Some s → s.signed ≡ false
unsigned [] k s none is = absurd (grind (arith, is))
unsigned (d ∷ ss) zero s none is = grind (arith, or_parts, none, is)
unsigned (d ∷ ss) (suc k) s none is = unsigned ss k s (or_parts d.signed (list_any (λ e. e.signed) ss) none).1 is

stay_free : (first : ℤ) (ss : List HeadPosition) (ts : List Taken) (xs : List (Option ℤ))
    → list_any (λ d. d.signed) ss ≡ false → AllByRecursion (IsHead false ss) ts → signs_along first 0 ts xs ≡ xs
stay_free first ss [] xs none are = refl
stay_free first ss (t ∷ ts) xs none are =
    let free : t.signed ≡ false =
    sym (ap (λ (u : Taken). u.signed) are.0.2) ∙ unsigned ss t.place are.0.0 none are.0.1 in
    rw free (stay_free first ss ts xs none are.1)

pub none_signed : (first : ℤ) (ss : List HeadPosition)
    → AllNear ss → list_any (λ d. d.signed) ss ≡ false → signs_from first ss ≡ replicate (length ss) None
unfolding signs_from
none_signed first ss near none =
    stay_free first ss (taken false ss) (replicate (length ss) None) none (taken_are false ss near).only
