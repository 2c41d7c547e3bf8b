-- What the calls of functions in an expression give (IEEE 1364-2005, clause 10.4.3).
use Rattle.std.specs.Prelude.{◌≡◌, ℕ, List, [], ◌∷◌, ◌++◌}
use Rattle.vl_base.specs.declared.files.File.{File}
use Rattle.vl_design.specs.declared.design.Form.{Form}
use Rattle.vl_design.specs.Syntax.{Exp, Num, Label, Sig, Word, Pick, Slice, Un, Bin, Cond, Cat, Rep, Cast, Call, Time, LastAnswer, Exps, NoExps, MoreExps}
use Rattle.vl_design.specs.Width.{Names, Scope, input_widths}
use Rattle.vl_design.specs.Value.{Sample, value, side_by_side, arguments}
use Rattle.vl_eval.specs.Rooms.{scope_at, GivesFitting}

-- the parts of a concatenation
abbrev pub parts_of : Exp → Exps
parts_of (Cat es) = es
parts_of (Rep n es) = es
parts_of e = NoExps

abbrev mutual
  -- what its calls give in text order; a call in an argument of another is not told
  pub answers_of : Scope → Sample → Exp → List ℕ
  answers_of scope s (Num v w signed) = []
  answers_of scope s (Label v care w signed) = []
  answers_of scope s (Sig k) = []
  answers_of scope s (Word m a) = answers_of scope s a
  answers_of scope s (Pick b i from w) = answers_of scope s b ++ answers_of scope s i
  answers_of scope s (Slice b low w) = answers_of scope s b
  answers_of scope s (Un op a) = answers_of scope s a
  answers_of scope s (Bin op a b) = answers_of scope s a ++ answers_of scope s b
  answers_of scope s (Cond t a b) = answers_of scope s t ++ (answers_of scope s a ++ answers_of scope s b)
  answers_of scope s (Cat es) = all_answers scope s es
  answers_of scope s (Rep n es) = all_answers scope s es
  answers_of scope s (Cast signed a) = answers_of scope s a
  answers_of scope s (Call f es) = scope.call f (arguments scope s es (input_widths scope.names f)) ∷ []
  answers_of scope s Time = []
  answers_of scope s LastAnswer = []

  pub all_answers : Scope → Sample → Exps → List ℕ
  all_answers scope s NoExps = []
  all_answers scope s (MoreExps e es) = answers_of scope s e ++ all_answers scope s es

-- from answers that begin with those of the expression's calls, its value was read, and the others are left
pub record Reads (names : Names) (s : Sample) (e : Exp) (c : Form) (before : List ℕ) (v : ℕ) (left : List ℕ) : Type 0 where
  pub leads : (files : List File) (call : ℕ → List ℕ → ℕ) (rest : List ℕ) → GivesFitting names call
      → before ≡ answers_of (scope_at names files call) s e ++ rest
      → (v ≡ value (scope_at names files call) s e c) × (left ≡ rest)

-- likewise for values side by side
pub record ReadsAll (names : Names) (s : Sample) (es : Exps) (before : List ℕ) (v : ℕ) (left : List ℕ) : Type 0 where
  pub leads : (files : List File) (call : ℕ → List ℕ → ℕ) (rest : List ℕ) → GivesFitting names call
      → before ≡ all_answers (scope_at names files call) s es ++ rest
      → (v ≡ side_by_side (scope_at names files call) s es) × (left ≡ rest)
