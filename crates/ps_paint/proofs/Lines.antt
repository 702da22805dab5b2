-- What whole lines of a page draw.
use Rattle.std.proofs.Common.{◌≡◌, ℕ, suc, ◌+◌, ◌*◌, ◌≤◌, ℤ, pos, true, List, [], ◌∷◌, ◌++◌, length, length-append}
use Rattle.std.proofs.Common.{append_assoc, append-nil, Some, arith, All}
use Rattle.std.proofs.lemmas.Int.{ints}
use Rattle.std.proofs.lemmas.List.Elements.{All-head, All-tail}
use Rattle.std.specs.List.{flat_map}
use Rattle.glyph_paths.specs.Procedure.{numbers}
use Rattle.ps_text.specs.declared.sheet.Frame.{Frame}
use Rattle.ps_text.specs.Range.{IsNumber, IsOffset}
use Rattle.ps_steps.specs.declared.paint.Paint.{Paint}
use Rattle.ps_steps.specs.declared.paint.PagePaint.{PagePaint}
use Rattle.ps_steps.specs.declared.token.SimpleToken.{SimpleToken}
use Rattle.ps_steps.specs.declared.token.SimpleToken.TheVariants.{Name as name_token}
use Rattle.ps_steps.specs.declared.value.Operand.{Operand}
use Rattle.ps_steps.specs.declared.graphics.Graphics.{Graphics}
use Rattle.ps_steps.specs.Near.{is_near}
use Rattle.ps_steps.specs.State.{State, Names}
use Rattle.ps_steps.specs.Operators.{all_near}
use Rattle.ps_paint.specs.Distances.{small_height}
use Rattle.ps_paint.proofs.Scales.{near}
use Rattle.ps_paint.proofs.Runs.{Runs, pushed}
use Rattle.ps_paint.proofs.Draws.{corner, page}
use Rattle.ps_paint.proofs.Takes.{Takes, IsTokenWord, nothing_taken, both_taken, takes_line}

-- before and after each line of a page
abbrev pub on_page : Frame → Names → List Operand → List Graphics → List Paint → List PagePaint → State
on_page f ds st saved ps pages = page ds st (corner f small_height) saved ps pages

-- a text leads from one state to another, in at most 100 tokens per byte
pub record Leads (text : List ℕ) (m k : State) : Type 0 where
  pub count : ℕ
  pub few : count ≤ 100 * length text
  pub takes : Takes count text m k

pub both_lead : {s t : List ℕ} {m k l : State} → Leads s m k → Leads t k l → Leads (s ++ t) m l
both_lead {s} {t} x y = record {
  count = x.count + y.count;
  few = let a = x.few in let b = y.few in omega (arith, length-append s t);
  takes = both_taken x.takes y.takes;
}

pub stays : {text : List ℕ} {m : State} → Takes 0 text m m → Leads text m m
stays t = record { count = 0; few = omega arith; takes = t }

-- on a page with these procedures, the text adds these paints and leaves the rest as it was
pub record Draws (f : Frame) (ds : Names) (text : List ℕ) (new : List Paint) : Type 0 where
  pub draw : (st : List Operand) (saved : List Graphics) (ps : List Paint) (pages : List PagePaint)
      → Leads text (on_page f ds st saved ps pages) (on_page f ds st saved (ps ++ new) pages)

-- what is skipped draws nothing
pub passed_over : {f : Frame} {ds : Names} {text : List ℕ} → ((m : State) → Takes 0 text m m) → Draws f ds text []
passed_over {f} {ds} t =
    record { draw = λ st saved ps pages. rw (append-nil ps) (stays (t (on_page f ds st saved ps pages))) }

pub nothing_drawn : {f : Frame} {ds : Names} → Draws f ds [] []
nothing_drawn = passed_over (λ m. nothing_taken)

pub both_drawn : {f : Frame} {ds : Names} {s t : List ℕ} {a b : List Paint}
    → Draws f ds s a → Draws f ds t b → Draws f ds (s ++ t) (a ++ b)
both_drawn {a = a} u v = record {
  draw = λ st saved ps pages.
      both_lead (u.draw st saved ps pages) (rw append_assoc at (v.draw st saved (ps ++ a) pages));
}

-- each element of a list is drawn
pub all_drawn : {f : Frame} {ds : Names} {A : Type 0} {P : A → Type 0} {text : A → List ℕ} {paint : A → List Paint}
    → ((x : A) → P x → Draws f ds (text x) (paint x)) → (xs : List A) → All P xs
    → Draws f ds (flat_map text xs) (flat_map paint xs)
all_drawn one [] a = nothing_drawn
all_drawn {P = P} one (x ∷ xs) a = both_drawn (one x (All-head P x xs a)) (all_drawn one xs (All-tail P x xs a))

-- a line of numbers and of a name that runs a procedure
pub line_drawn : {f : Frame} {ds : Names} {n : ℕ} {body : List SimpleToken} {new : List Paint} (zs : List ℤ)
    (name : List ℕ)
    → all_near zs ≡ true → IsTokenWord (name_token name) name
    → ds name ≡ Some body → length zs + suc n ≤ 100
    → ((st : List Operand) (saved : List Graphics) (ps : List Paint) (pages : List PagePaint)
    → Runs n body (on_page f ds (pushed zs st) saved ps pages) (on_page f ds st saved (ps ++ new) pages))
    → Draws f ds ((numbers zs ++ name) ++ 10 ∷ []) new
line_drawn {f} {ds} {n} zs name near word made few run =
    let enough : length zs + suc n ≤ 100 * length ((numbers zs ++ name) ++ 10 ∷ []) =
    omega (arith, few, length-append (numbers zs ++ name) (10 ∷ [])) in
    record {
      draw = λ st saved ps pages. record {
        count = length zs + suc n;
        few = enough;
        takes = takes_line {m = on_page f ds st saved ps pages} zs name near word made (run st saved ps pages);
      };
    }

-- numbers of a page
pub page_near : (z : ℤ) → IsNumber z → is_near z ≡ true
page_near z n = near z (omega (arith, ints)) (omega (arith, ints))

pub offset_near : (z : ℤ) → IsOffset z → is_near z ≡ true
offset_near z n = near z (omega (arith, ints)) (omega (arith, ints))
