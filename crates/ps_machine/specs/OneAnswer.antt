-- A run has one result: it paints one list of pages, or it halts at one token for one cause.
use Rattle.std.specs.Prelude.{◌≡◌, ℕ, List}
use Rattle.ps_steps.specs.{declared.halt.Cause.Cause, declared.paint.PagePaint.PagePaint, Steps.Paints, Steps.Halts}

pub record HasOneAnswer : Type 0 where
  pub painted : (text : List ℕ) (budget : ℕ) (ps qs : List PagePaint)
      → Paints text budget ps → Paints text budget qs → ps ≡ qs
  pub halted : (text : List ℕ) (budget n k : ℕ) (c d : Cause)
      → Halts text budget n c → Halts text budget k d → (n ≡ k) × (c ≡ d)
  pub either : (text : List ℕ) (budget : ℕ) (ps : List PagePaint) (token : ℕ) (cause : Cause)
      → Paints text budget ps → Halts text budget token cause → ⊥
