-- The trap of a part in a joined bank.
use Rattle.std.proofs.Common.{◌≡◌, ℕ, zero, suc, ◌<◌, Option, Some, None, List, [], ◌∷◌, length, map, set, get_or, refl, sym, ap, ◌∙◌, subst}
use Rattle.std.specs.Prelude.{slice_get, slice_index, option_map, option_and_then, IfSome}
use Rattle.cell_eval.specs.vl_base.specs.declared.files.File.{File}
use Rattle.cell_eval.specs.vl_base.specs.declared.files.OpenFile.{OpenFile}
use Rattle.trap_runtime.specs.cell_form.specs.declared.table.Trap.{Trap}
use Rattle.trap_runtime.specs.cell_form.specs.Data.{BankData, StateData, TableData}
use Rattle.trap_runtime.specs.cell_form.specs.Sound.{Shape, shape_of}
use Rattle.trap_runtime.specs.cell_form.specs.Views.{table_of}
use Rattle.trap_runtime.specs.Served.{Works}
use Rattle.trap_runtime.specs.Traps.{IsTrap}
use Rattle.fab_join.specs.declared.joined.Part.{Part}
use Rattle.fab_join.specs.Banks.{part, IsWithin}
use Rattle.fab_join.specs.Laid.{shape_of_span, part_data, IsPart, IsLaid}
use Rattle.fab_join.specs.Numbers.{behind, numbered_state, numbered_trap}
use Rattle.fab_join.specs.Parts.{PartData, part_at, with_bank}
use Rattle.fab_join.specs.Traps.{trap_at, trap_in, trap_served, part_served, trap_takes_memory, way_of_trap}
use Rattle.fab_join.proofs.Laid.{is_part, own_table, part_of_read, with_new, with_other, view_changed, laid_shape}
use Rattle.fab_join.proofs.PartCycles.{get_in_part}
use Rattle.fab_join.proofs.MovedTraps.{DoesAlone, trap-moved, is-trap-moved}

-- the trap of a state by its number
state-trap : (a : Shape) (xs : List StateData) (k : ℕ) → option_and_then (λ (x : StateData). x.trap) (slice_get (map (numbered_state (behind a)) xs) k) ≡ option_map (numbered_trap (behind a)) (option_and_then (λ (x : StateData). x.trap) (slice_get xs k))
state-trap a [] k = refl
state-trap a (x ∷ xs) zero = refl
state-trap a (x ∷ xs) (suc k) = state-trap a xs k

-- a trap that may not be there, under the numbers of a part
served-alone : (a s : Shape) (b : BankData) → IsWithin a s (shape_of b) → (files : List File) (rows : List OpenFile) (printed : List ℕ) (t : Option Trap) → IfSome t (λ x. IsTrap (part a s b) x) →
    DoesAlone a s b (trap_served files (option_map (numbered_trap (behind a)) t) (record { bank = b; table = rows; printed = printed })) (trap_served files t (record { bank = part a s b; table = rows; printed = printed }))
served-alone a s b within files rows printed None h = record { bank = refl; table = refl; printed = refl; shape = refl; elsewhere = λ c t apart. refl }
served-alone a s b within files rows printed (Some t) h = trap-moved a s b within files rows printed t h

trap-there : (a s : Shape) (b : BankData) → IsWithin a s (shape_of b) → (t : Option Trap) → IfSome t (λ x. IsTrap (part a s b) x) → IfSome (option_map (numbered_trap (behind a)) t) (λ x. IsTrap b x)
trap-there a s b within None h = tt
trap-there a s b within (Some t) h = is-trap-moved a s b within t h

same-way : (a : Shape) (t : Option Trap) → way_of_trap (option_map (numbered_trap (behind a)) t) ≡ way_of_trap t
same-way a None = refl
same-way a (Some t) = refl

same-memory : (a : Shape) (t : Option Trap) → trap_takes_memory (option_map (numbered_trap (behind a)) t) ≡ trap_takes_memory t
same-memory a None = refl
same-memory a (Some t) = refl

module _ (b : BankData) (x : Part) (h : IsPart (shape_of b) x) where
  abbrev place : Shape
  place = shape_of_span x.place

  abbrev size : Shape
  size = shape_of_span x.size

  -- the trap of a part, under the numbers of its place
  part-trap : trap_at (table_of x.table) b ≡ option_map (numbered_trap (behind place)) (trap_in (part_data b x))
  part-trap =
      ap (λ (t : TableData). trap_at t b) h.table_is
      ∙ ap (λ (k : ℕ). option_and_then (λ (y : StateData). y.trap) (slice_get (map (numbered_state (behind place)) h.table.states) k)) (get_in_part b.regs place.regs size.regs h.table.state 0 h.may_run.state)
      ∙ state-trap place h.table.states (slice_index (part place size b).regs h.table.state)
      ∙ ap (λ (t : TableData). option_map (numbered_trap (behind place)) (trap_at t (part place size b))) (sym (own_table (shape_of b) x h))

  part-may-serve : IfSome (trap_in (part_data b x)) (λ t. IsTrap (part place size b) t) → IfSome (trap_at (table_of x.table) b) (λ t. IsTrap b t)
  part-may-serve can =
      let P : Option Trap → Type 0 = λ o. IfSome o (λ t. IsTrap b t) in
      subst P (sym part-trap) (trap-there place size b h.within (trap_in (part_data b x)) can)

  part-serves : (files : List File) (rows : List OpenFile) (printed : List ℕ) → IfSome (trap_in (part_data b x)) (λ t. IsTrap (part place size b) t) →
      DoesAlone place size b (trap_served files (trap_at (table_of x.table) b) (record { bank = b; table = rows; printed = printed })) (part_served files (part_data b x) rows printed)
  part-serves files rows printed can =
      let P : Option Trap → Type 0 = λ o. DoesAlone place size b (trap_served files o (record { bank = b; table = rows; printed = printed })) (part_served files (part_data b x) rows printed) in
      subst P (sym part-trap) (served-alone place size b h.within files rows printed (trap_in (part_data b x)) can)

module _ (b : BankData) (ps : List Part) (i : ℕ) (x : Part) (lt : i < length ps) (read : x ≡ get_or ps i x) (h : IsLaid b ps) where
  mine : IsPart (shape_of b) x
  mine = is_part (shape_of b) ps i x lt read h.each

  at : part_data b x ≡ part_at (map (part_data b) ps) i
  at = sym (part_of_read b ps i x lt read)

  module _ (can : IfSome (trap_in (part_at (map (part_data b) ps) i)) (λ t. IsTrap (part_at (map (part_data b) ps) i).bank t)) where
    own : IfSome (trap_in (part_data b x)) (λ t. IsTrap (part (shape_of_span x.place) (shape_of_span x.size) b) t)
    own = let P : PartData → Type 0 = λ p. IfSome (trap_in p) (λ t. IsTrap p.bank t) in subst P (sym at) can

    pub may-serve : IfSome (trap_at (table_of x.table) b) (λ t. IsTrap b t)
    may-serve = part-may-serve b x mine own

    module _ (files : List File) (rows : List OpenFile) (printed : List ℕ) (y : Works) (is : y ≡ trap_served files (trap_at (table_of x.table) b) (record { bank = b; table = rows; printed = printed })) where
      alone : DoesAlone (shape_of_span x.place) (shape_of_span x.size) b y (part_served files (part_data b x) rows printed)
      alone =
          let P : Works → Type 0 = λ z. DoesAlone (shape_of_span x.place) (shape_of_span x.size) b z (part_served files (part_data b x) rows printed) in
          subst P (sym is) (part-serves b x mine files rows printed own)

      pub view-served : map (part_data y.bank) ps ≡ set (map (part_data b) ps) i (with_bank (part_at (map (part_data b) ps) i) (part_served files (part_at (map (part_data b) ps) i) rows printed).bank)
      view-served =
          view_changed b y.bank (part_served files (part_data b x) rows printed).bank ps i x lt read
          (with_new b y.bank (part_served files (part_data b x) rows printed).bank x alone.bank)
          (λ q apart. with_other b y.bank q (alone.elsewhere (shape_of_span q.place) (shape_of_span q.size) apart)) h
          ∙ ap (λ (p : PartData). set (map (part_data b) ps) i (with_bank (part_at (map (part_data b) ps) i) (part_served files p rows printed).bank)) at

      pub table-served : y.table ≡ (part_served files (part_at (map (part_data b) ps) i) rows printed).table
      table-served = alone.table ∙ ap (λ (p : PartData). (part_served files p rows printed).table) at

      pub text-served : y.printed ≡ (part_served files (part_at (map (part_data b) ps) i) rows printed).printed
      text-served = alone.printed ∙ ap (λ (p : PartData). (part_served files p rows printed).printed) at

      pub laid-served : IsLaid y.bank ps
      laid-served = laid_shape b y.bank ps alone.shape h

  pub way-served : way_of_trap (trap_at (table_of x.table) b) ≡ way_of_trap (trap_in (part_at (map (part_data b) ps) i))
  way-served = ap way_of_trap (part-trap b x mine) ∙ same-way (shape_of_span x.place) (trap_in (part_data b x)) ∙ ap (λ (p : PartData). way_of_trap (trap_in p)) at

  pub memory-served : trap_takes_memory (trap_at (table_of x.table) b) ≡ trap_takes_memory (trap_in (part_at (map (part_data b) ps) i))
  memory-served =
      ap trap_takes_memory (part-trap b x mine)
      ∙ same-memory (shape_of_span x.place) (trap_in (part_data b x)) ∙ ap (λ (p : PartData). trap_takes_memory (trap_in p)) at
