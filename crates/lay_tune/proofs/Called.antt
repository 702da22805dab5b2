-- A score calls for one system of given measures.
use Rattle.std.proofs.Common.{◌≡◌, ◌∙◌, ℕ, ℤ, List, map, refl, sym, ap}
use Rattle.mus_score.specs.declared.score.Score.{Score}
use Rattle.mus_onsets.specs.declared.keys.ColumnKey.{ColumnKey}
use Rattle.mus_onsets.specs.Keys.{AreKeys, called_keys}
use Rattle.mus_onsets.specs.Onsets.{timeline_of}
use Rattle.mus_laid.specs.declared.laid.StaffMarks.{StaffMarks}
use Rattle.mus_laid.specs.declared.laid.SystemMarks.{SystemMarks}
use Rattle.mus_marks.specs.Staff.{staff_marks}
use Rattle.mus_marks.specs.System.{drawn_staves}
use Rattle.mus_marks.specs.Tilt.{IsTilted, tilted_staff}
use Rattle.mus_marks.proofs.OneList.{same_keys}
use Rattle.lay_tune.{specs.Spans.IsSystemOf, proofs.RisingKeys.have_keys}

abbrev marks_of : ℕ → ℕ → List ColumnKey → List StaffMarks → SystemMarks
marks_of a b keys staves = record { a = a; b = b; keys = keys; staves = staves }

same_marks : (a b c d : ℕ) (keys others : List ColumnKey) (staves more : List StaffMarks)
    → a ≡ c → b ≡ d → keys ≡ others → staves ≡ more → marks_of a b keys staves ≡ marks_of c d others more
same_marks a b c d keys others staves more e f g h =
    ap (λ x. marks_of x b keys staves) e
    ∙ (ap (λ x. marks_of c x keys staves) f ∙ (ap (λ x. marks_of c d x staves) g ∙ ap (λ x. marks_of c d others x) h))

-- there is a system of any measures
pub has_system : (s : Score) (a b : ℕ) → (m : SystemMarks) × IsSystemOf s a b m
has_system s a b =
    let keys = have_keys (called_keys s (timeline_of s).lengths a b) in (
      marks_of a b keys.0 (map (staff_marks keys.0 (timeline_of s).lengths a b) (drawn_staves s)),
      record { from = refl; to = refl; keys = keys.1; staves = refl },
    )

-- and it is one, whose keys determine its staves
one_called : (s : Score) (a b : ℕ) (staves_of : List ColumnKey → List StaffMarks) (m n : SystemMarks)
    → m.a ≡ a → n.a ≡ a → m.b ≡ b → n.b ≡ b
    → AreKeys m.keys (called_keys s (timeline_of s).lengths a b)
    → AreKeys n.keys (called_keys s (timeline_of s).lengths a b) → m.staves ≡ staves_of m.keys
    → n.staves ≡ staves_of n.keys
    → m ≡ n
one_called s a b staves_of m n from start to end called keyed staves stand =
    let keys = same_keys m.keys n.keys (called_keys s (timeline_of s).lengths a b) called keyed in
    same_marks m.a m.b n.a n.b m.keys n.keys m.staves n.staves (from ∙ sym start) (to ∙ sym end) keys
    (staves ∙ ap staves_of keys ∙ sym stand)

pub one_system : (s : Score) (a b : ℕ) (m n : SystemMarks) → IsSystemOf s a b m → IsSystemOf s a b n → m ≡ n
one_system s a b m n h k =
    one_called s a b (λ keys. map (staff_marks keys (timeline_of s).lengths a b) (drawn_staves s)) m n h.from k.from
    h.to k.to h.keys k.keys h.staves k.staves

-- so are the marks that are tilted over some abscissas
pub one_tilted : (s : Score) (a b : ℕ) (at : List ℤ) (m n : SystemMarks)
    → IsTilted s (timeline_of s) a b at m → IsTilted s (timeline_of s) a b at n → m ≡ n
one_tilted s a b at m n h k =
    one_called s a b (λ keys. map (tilted_staff keys (timeline_of s).lengths at a b) (drawn_staves s)) m n h.from k.from
    h.to k.to h.keys k.keys h.staves k.staves
