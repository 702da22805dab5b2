-- A list that is built one value at a time.
use Rattle.std.proofs.Common.{◌≡◌, ℕ, suc, ◌+◌, ◌<◌, ℤ, ◌+ℤ◌, List, [], ◌∷◌, ◌++◌, length, map, take, drop, get_or, All}
use Rattle.std.proofs.Common.{sym, ap, ap₂, ◌∙◌, subst, add-one, drop-cons, append_assoc}
use Rattle.std.proofs.lemmas.List.{map-append, take_more}
use Rattle.std.proofs.lemmas.List.Elements.{All-push}
use Rattle.mus_laid.specs.declared.laid.StaffMarks.{StaffMarks}
use Rattle.ps_text.specs.declared.sheet.Staff.{Staff}
use Rattle.set_staves.specs.Marks.{staff_at, staves_at}

module _ {X Y : Type 0} (f : X → Y) where
  pub mapped_more : (xs : List X) (i : ℕ) (x : X) (made more : List Y) (y : Y)
      → i < length xs → x ≡ get_or xs i x → made ≡ map f (take i xs) → y ≡ f x → more ≡ made ++ y ∷ []
      → more ≡ map f (take (i + 1) xs)
  mapped_more xs i x made more y l at e here pushed =
      pushed
      ∙ ap₂ (λ a b. a ++ b ∷ []) e (here ∙ ap f at)
      ∙ sym (ap (map f) (take_more xs i x l) ∙ map-append f (take i xs) (get_or xs i x ∷ []))

module _ {Y : Type 0} (P : Y → Type 0) where
  pub all_more : (made more : List Y) (y : Y) → more ≡ made ++ y ∷ [] → All P made → P y → All P more
  all_more made more y e h k = subst (λ t. All P t) (sym e) (All-push P made y h k)

-- one more staff
pub staves_more : (width : ℕ) (at : List ℤ) (top : ℤ) (staves : List StaffMarks) (bases : List ℤ) (n : ℕ)
    (made more all : List Staff) (s : StaffMarks) (b : ℤ) (staff : Staff)
    → n < length staves → n < length bases → s ≡ get_or staves n s → b ≡ get_or bases n b
    → staff ≡ staff_at width at (top +ℤ b) s
    → made ++ staves_at width at top (drop n staves) (drop n bases) ≡ all
    → more ≡ made ++ staff ∷ []
    → more ++ staves_at width at top (drop (n + 1) staves) (drop (n + 1) bases) ≡ all
staves_more width at top staves bases n made more all s b staff l m es eb here before pushed =
    let first : drop n staves ≡ s ∷ drop (n + 1) staves =
    rw (add-one, drop-cons staves n s) (ap (λ t. t ∷ drop (suc n) staves) (sym es)) in
    let second : drop n bases ≡ b ∷ drop (n + 1) bases =
    rw (add-one, drop-cons bases n b) (ap (λ t. t ∷ drop (suc n) bases) (sym eb)) in
    ap (λ t. t ++ staves_at width at top (drop (n + 1) staves) (drop (n + 1) bases)) pushed
    ∙ append_assoc made (staff ∷ []) (staves_at width at top (drop (n + 1) staves) (drop (n + 1) bases))
    ∙ ap (λ t. made ++ t ∷ staves_at width at top (drop (n + 1) staves) (drop (n + 1) bases)) here
    ∙ sym (ap₂ (λ xs ys. made ++ staves_at width at top xs ys) first second)
    ∙ before
