-- What it means that cells compute an expression (IEEE 1364-2005, clause 5).
use Rattle.std.specs.Prelude.{◌≡◌, ℕ, Bool, true, false, Option, Some, None}
use Rattle.vl_design.specs.declared.design.Form.{Form}
use Rattle.vl_design.specs.Syntax.{Exp, Cast}
use Rattle.vl_design.specs.Value.{Sample, value}
use Rattle.vl_design.specs.Width.{Names, Scope}
use Rattle.cell_emit.specs.cell_form.specs.Data.{ListData, BankData}
use Rattle.cell_emit.specs.cell_form.specs.Sound.{Shape}
use Rattle.cell_emit.specs.Slots.{held, width_at, AreSound, Longer}
use Rattle.cell_emit.specs.Envs.{Env, IsSlot, HasMemories, Stands}

-- with at most n cells more, a slot of w bits holds what f says of what is read
pub record Holds (names : Names) (n : ℕ) (at : Env) (old new : ListData) (r w : ℕ) (f : Sample → ℕ) : Type 0 where
  pub longer : Longer (HasMemories names at) n old new
  pub slot : IsSlot new r w
  pub value : (s : Shape) (b : BankData) (x : Sample) → AreSound s old → Stands names b old at x → held b new r ≡ f x

-- with at most n cells more, a slot holds the value of an expression in a context
abbrev pub Compiles : Names → Scope → ℕ → Exp → Form → Env → ListData → ListData → ℕ → Type 0
Compiles names scope n e c at old new r = Holds names n at old new r c.width (λ x. value scope x e c)

-- the width of a slot, or none where there is no slot
abbrev pub width_or : ListData → Option ℕ → ℕ
width_or l None = 0
width_or l (Some r) = width_at l r

-- one cell puts a part beside others, where there are some
abbrev pub beside_count : Option ℕ → ℕ
beside_count None = 0
beside_count (Some r) = 1

-- the bits that stand before a part: so many before the first one
abbrev pub bits_before : ℕ → Option ℕ → ℕ
bits_before more None = more
bits_before more (Some r) = 0

-- a value that is read with another sign
abbrev pub is_cast : Exp → Bool
is_cast (Cast s a) = true
is_cast e = false
