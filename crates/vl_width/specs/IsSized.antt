-- Well-formed sized expressions: each node has 1 to 128 bits, and no fewer than its own value; operands have one width where
-- the operator wants it; a number names what it is to name (IEEE 1364-2005, clauses 5.2, 5.4 and 10.4).
use Rattle.std.specs.Prelude.{◌≡◌, ℕ, ◌+◌, ◌^◌, ◌<◌, ◌≤◌, ⊤, IsTrue, slice_get}
use Rattle.vl_design.specs.vl_base.specs.Value.{needs_one_width}
use Rattle.vl_design.specs.Sized.{Sized, At, Node, Num, Label, Sig, Word, Pick, Slice, Un, Bin, Cond, Cat, Rep, Cast, Call, Time, LastAnswer, Several, NoneSized, MoreSized}
use Rattle.vl_design.specs.Width.{Names}
use Rattle.vl_design.specs.Sound.{IsWidth, IsSignal, IsMemory, Takes}
use Rattle.vl_width.specs.Widths.{width_of, node_width}

abbrev pub many_of : Several → ℕ
many_of NoneSized = 0
many_of (MoreSized x xs) = 1 + many_of xs

abbrev mutual
  pub IsSized : Names → Sized → Type 0
  IsSized names (At w signed n) = IsWidth w × IsWidth (node_width names n) × (node_width names n ≤ w) × IsNode names n

  -- what a node names is there, and its operands are well-formed
  pub IsNode : Names → Node → Type 0
  IsNode names (Num v w signed) = v < 2 ^ w
  IsNode names (Label v care w signed) = (v < 2 ^ w) × (care < 2 ^ w)
  IsNode names (Sig k) = IsSignal names k
  IsNode names (Word m a) = IsMemory names m × IsSized names a
  IsNode names (Pick b i from w) = IsSized names b × IsSized names i
  IsNode names (Slice b low w) = IsSized names b
  IsNode names (Un op a) = IsSized names a
  IsNode names (Bin op a b) = (IsTrue (needs_one_width op) → width_of a ≡ width_of b) × IsSized names a × IsSized names b
  IsNode names (Cond t a b) = (width_of a ≡ width_of b) × IsSized names t × IsSized names a × IsSized names b
  IsNode names (Cat xs) = AreSized names xs
  IsNode names (Rep n xs) = AreSized names xs
  IsNode names (Cast signed a) = IsSized names a
  IsNode names (Call f xs) = Takes (slice_get names.funs f) (many_of xs) × AreSized names xs
  IsNode names Time = ⊤
  IsNode names LastAnswer = ⊤

  pub AreSized : Names → Several → Type 0
  AreSized names NoneSized = ⊤
  AreSized names (MoreSized x xs) = IsSized names x × AreSized names xs
