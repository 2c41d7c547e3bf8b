-- The registers of stores read as sites (own).
use Rattle.std.specs.Prelude.{◌≡◌, ◌*◌, ◌<◌, List, [], ◌∷◌, ◌++◌, length, ⊤}
use Rattle.std.specs.List.{AllByRecursion}
use Rattle.ten_form.specs.vl_design.specs.Syntax.{Row}
use Rattle.ten_form.specs.vl_design.specs.Width.{signal_form}
use Rattle.cell_emit.specs.cell_form.specs.Data.{ListData}
use Rattle.cell_emit.specs.cell_form.specs.Sound.{Shape}
use Rattle.cell_emit.specs.Slots.{Longer}
use Rattle.cell_emit.specs.Entries.{IsCopy}
use Rattle.cell_emit.specs.declared.pending.Site.{Site}
use Rattle.ten_form.specs.declared.store.Store.{Store}
use Rattle.ten_form.specs.Holding.{enable_register, word_register, value_register, mask_register}

-- each store has this of its site, and there are as many of both
abbrev pub EachHas : (Store → Site → Type 0) → List Store → List Site → Type 0
EachHas P [] [] = ⊤
EachHas P [] (s ∷ ss) = ⊥
EachHas P (x ∷ xs) [] = ⊥
EachHas P (x ∷ xs) (s ∷ ss) = P x s × EachHas P xs ss

-- a bank has the registers of a store, and its memory
abbrev pub HasStore : Shape → Store → Type 0
HasStore z x = (mask_register x < z.regs) × (x.memory < z.mems)

-- slots hold what the registers of a store hold
pub record IsRead (rows : List Row) (l : ListData) (x : Store) (s : Site) : Type 0 where
  pub memory : s.memory ≡ x.memory
  pub enable : IsCopy l 1 (enable_register x) s.enable
  pub word : IsCopy l 32 (word_register x) s.word
  pub value : IsCopy l (signal_form rows x.memory).width (value_register x) s.value
  pub mask : IsCopy l (signal_form rows x.memory).width (mask_register x) s.mask

-- with at most four cells more for each store, sites that say what their registers hold, behind those that were there
pub record Reads (rows : List Row) (stores : List Store) (old new : ListData) (before after : List Site) : Type 0 where
  pub longer : Longer (λ z. AllByRecursion (HasStore z) stores) (4 * length stores) old new
  pub more : List Site
  pub are : after ≡ before ++ more
  pub read : EachHas (IsRead rows new) stores more
