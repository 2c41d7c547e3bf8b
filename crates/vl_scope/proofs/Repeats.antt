-- What is known of a name by marks is what its declarations say.
use Rattle.std.proofs.Common.{◌≡◌, ℕ, Bool, true, false, ◌&&◌, ◌||◌, if◌then◌else◌, List, [], ◌∷◌, fold, refl, sym, ap, ◌∙◌}
use Rattle.std.specs.List.{list_any}
use Rattle.std.specs.Str.{bytes_eq}
use Rattle.vl_scope.specs.declared.marks.Marks.{Marks}
use Rattle.vl_scope.specs.Declarations.{Declared}
use Rattle.vl_scope.specs.DeclarationFaults.{clashes, mismatches, directs}
use Rattle.vl_scope.specs.Marks.{marks_of, no_marks, either, marks_after, marks_in, clash_of, mismatch_of}
use Rattle.vl_base.proofs.Booleans.{or_assoc}

-- a test that holds of what one or the other says just where it holds of one of them
record IsJoint (test : Marks → Bool) : Type 0 where
  none : test no_marks ≡ false
  joint : (a b : Marks) → test (either a b) ≡ (test a || test b)

from : (test : Marks → Bool) → IsJoint test → (t : List ℕ) (known : Marks) (all : List Declared)
    → test (fold (marks_after t) known all) ≡ (test known || list_any (λ a. bytes_eq t a.name.name && test (marks_of a)) all)
from test is t known [] = sym (or_false (test known))
  where
    or_false : (b : Bool) → (b || false) ≡ b
    or_false true = refl
    or_false false = refl
from test is t known (a ∷ all) =
    from test is t (marks_after t known a) all
    ∙ ap (λ b. b || list_any (λ a. bytes_eq t a.name.name && test (marks_of a)) all) (by (bytes_eq t a.name.name))
    ∙ or_assoc (test known) (bytes_eq t a.name.name && test (marks_of a)) _
  where
    by : (b : Bool) → test (if b then either known (marks_of a) else known) ≡ (test known || (b && test (marks_of a)))
    by true = is.joint known (marks_of a)
    by false = sym (or_false (test known))
      where
        or_false : (b : Bool) → (b || false) ≡ b
        or_false true = refl
        or_false false = refl

-- such a test of what is known of a spelling holds where one of its declarations passes it
marks_in-test : (test : Marks → Bool) → IsJoint test → (t : List ℕ) (all : List Declared) → test (marks_in all t) ≡ list_any (λ a. bytes_eq t a.name.name && test (marks_of a)) all
marks_in-test test is t all = from test is t no_marks all ∙ ap (λ b. b || list_any (λ a. bytes_eq t a.name.name && test (marks_of a)) all) is.none

shuffled : (a b c d : Bool) → ((a || b) || (c || d)) ≡ ((a || c) || (b || d))
shuffled true b c d = refl
shuffled false true true d = refl
shuffled false true false d = refl
shuffled false false c d = refl

spread : (a b c : Bool) → ((a || b) && c) ≡ ((a && c) || (b && c))
spread true true c = by c
  where
    by : (c : Bool) → c ≡ (c || c)
    by true = refl
    by false = refl
spread true false c = by c
  where
    by : (c : Bool) → c ≡ (c || false)
    by true = refl
    by false = refl
spread false b c = refl

-- four pairs of which one holds
four : (a b c d e f g h w x y z : Bool)
    → (((((a || b) && w) || ((c || d) && x)) || ((e || f) && y)) || ((g || h) && z))
    ≡ (((((a && w) || (c && x)) || (e && y)) || (g && z)) || ((((b && w) || (d && x)) || (f && y)) || (h && z)))
four a b c d e f g h w x y z =
    rw (spread a b w, spread c d x, spread e f y, spread g h z)
    (ap (λ p. (p || ((e && y) || (f && y))) || ((g && z) || (h && z))) (shuffled (a && w) (b && w) (c && x) (d && x))
    ∙ ap (λ p. p || ((g && z) || (h && z))) (shuffled ((a && w) || (c && x)) ((b && w) || (d && x)) (e && y) (f && y))
    ∙ shuffled (((a && w) || (c && x)) || (e && y)) (((b && w) || (d && x)) || (f && y)) (g && z) (h && z))

clash_joint : (k : Marks) → IsJoint (λ m. clash_of m k)
clash_joint k = record {
  none = refl;
  joint = λ a b. four a.directed b.directed a.typed b.typed a.directed b.directed a.no_port b.no_port k.directed k.typed k.no_port k.directed;
}

mismatch_joint : (k : Marks) → IsJoint (λ m. mismatch_of m k)
mismatch_joint k = record {
  none = refl;
  joint = λ a b. four a.input b.input a.stored b.stored a.directed b.directed a.memory b.memory k.stored k.input k.memory k.directed;
}

pub clashes-marks : (before : List Declared) (a : Declared) → clash_of (marks_in before a.name.name) (marks_of a) ≡ clashes before a
clashes-marks before a = marks_in-test (λ m. clash_of m (marks_of a)) (clash_joint (marks_of a)) a.name.name before

pub mismatches-marks : (before : List Declared) (a : Declared) → mismatch_of (marks_in before a.name.name) (marks_of a) ≡ mismatches before a
mismatches-marks before a = marks_in-test (λ m. mismatch_of m (marks_of a)) (mismatch_joint (marks_of a)) a.name.name before

pub directs-marks : (all : List Declared) (t : List ℕ) → (marks_in all t).directed ≡ directs all t
directs-marks all t = marks_in-test (λ m. m.directed) (record { none = refl; joint = λ a b. refl }) t all
