-- Slots that hold values of expressions, one behind another.
use Rattle.std.proofs.Common.{◌≡◌, refl, sym, ap, ◌∙◌, subst, arith, ℕ, ◌+◌, ◌<◌, false, List, [], ◌∷◌, ◌++◌, map}
use Rattle.std.specs.Prelude.{All}
use Rattle.std.specs.List.{AllByRecursion}
use Rattle.std.proofs.lemmas.List.{map-append}
use Rattle.std.proofs.lemmas.List.Elements.{All-from_recursion}
use Rattle.std.proofs.lemmas.List.Sums.{sum_by-append}
use Rattle.vl_base.specs.declared.files.File.{File}
use Rattle.vl_base.specs.Value.{resized}
use Rattle.vl_design.specs.declared.design.Form.{Form}
use Rattle.vl_design.specs.Functions.{scope_of}
use Rattle.vl_design.specs.Syntax.{Exp, Num, Flat}
use Rattle.vl_design.specs.Tasks.{descriptor_of}
use Rattle.vl_design.specs.Value.{value, own_value}
use Rattle.vl_design.specs.Width.{form, names_of}
use Rattle.cell_emit.specs.cell_form.specs.Data.{ListData, BankData}
use Rattle.cell_emit.specs.cell_form.specs.Sound.{Shape}
use Rattle.cell_emit.specs.Slots.{held, width_at, Grows, Gives, Nothing}
use Rattle.vl_eval.proofs.Widths.{form-width}
use Rattle.cell_emit.proofs.Frames.{held-stays, grows-same, grows-then, longer-grows, longer-same, longer-then, longer-weaken}
use Rattle.cell_emit.specs.Counts.{resizes}
use Rattle.cell_emit.specs.Envs.{Env, IsSlot, Fits, HasMemories}
use Rattle.cell_emit.proofs.Staying.{is-slot-stays, fits-stays, stands-stays, sound-behind}
use Rattle.cell_expr.specs.Compiled.{Holds, Compiles}
use Rattle.cell_expr.specs.Counts.{exp_count, body_cells}
use Rattle.cell_expr.proofs.Holding.{resizes-most, holds-wider, holds-node}
use Rattle.cell_expr.proofs.Nodes.{num-compiles}
use Rattle.ten_form.specs.Asked.{own_widths}
use Rattle.cell_calls.specs.Calls.{AreSlots, AsksFile, slots_in}
use Rattle.cell_calls.specs.Counts.{own_count}
use Rattle.cell_calls.specs.declared.own.Own.{Own}
use Rattle.cell_calls.specs.Displays.{IsReady, IsOwn, AreOwn}

-- ---- lists of slots

slots-stay : (old new : ListData) (rs ws : List ℕ) → Grows old new → AreSlots old rs ws → AreSlots new rs ws
slots-stay old new [] [] g h = tt
slots-stay old new [] (w ∷ ws) g h = absurd h
slots-stay old new (r ∷ rs) [] g h = absurd h
slots-stay old new (r ∷ rs) (w ∷ ws) g h = (is-slot-stays old new r w g h.0, slots-stay old new rs ws g h.1)

slots-append : (l : ListData) (rs ws ss us : List ℕ) → AreSlots l rs ws → AreSlots l ss us → AreSlots l (rs ++ ss) (ws ++ us)
slots-append l [] [] ss us h k = k
slots-append l [] (w ∷ ws) ss us h k = absurd h
slots-append l (r ∷ rs) [] ss us h k = absurd h
slots-append l (r ∷ rs) (w ∷ ws) ss us h k = (h.0, slots-append l rs ws ss us h.1 k)

slots-held : (b : BankData) (old new : ListData) (rs ws : List ℕ) → Grows old new → AreSlots old rs ws → map (held b new) rs ≡ map (held b old) rs
slots-held b old new [] ws g h = refl
slots-held b old new (r ∷ rs) [] g h = absurd h
slots-held b old new (r ∷ rs) (w ∷ ws) g h =
    ap (λ z. z ∷ map (held b new) rs) (held-stays b old new r g h.0.there) ∙ ap (λ z. held b old r ∷ z) (slots-held b old new rs ws g h.1)

slots-below : (l : ListData) (rs ws : List ℕ) → AreSlots l rs ws → AllByRecursion (λ r. r < slots_in l) rs
slots-below l [] ws h = tt
slots-below l (r ∷ rs) [] h = absurd h
slots-below l (r ∷ rs) (w ∷ ws) h = (h.0.there.1, slots-below l rs ws h.1)

pub slots-are-below : (l : ListData) (rs ws : List ℕ) → AreSlots l rs ws → All (λ r. r < slots_in l) rs
slots-are-below l rs ws h = All-from_recursion (λ r. r < slots_in l) rs (slots-below l rs ws h)

module _ (d : Flat) (at : Env) where
  -- ---- expressions

  pub own-none : (l : ListData) → AreOwn d [] at l l []
  own-none l = record { longer = longer-same (HasMemories (names_of d) at) l; slots = tt; values = λ files s b x sound st. refl }

  pub own-one : (e : Exp) (old new : ListData) (r : Own) → IsOwn d e at old new r → AreOwn d (e ∷ []) at old new (r.slot ∷ [])
  own-one e old new r h =
      let H : Shape → Type 0 = HasMemories (names_of d) at in
      record {
        longer = longer-weaken H H (exp_count (body_cells d) e) (own_count (body_cells d) (e ∷ [])) old new (λ s k. k) (omega arith) h.longer;
        slots = (h.slot, tt);
        values = λ files s b x sound st. ap (λ z. z ∷ []) (h.value files s b x sound st);
      }

  pub own-then : (es fs : List Exp) (l0 l1 l2 : ListData) (rs ss : List ℕ) → Fits (names_of d) l0 at → AreOwn d es at l0 l1 rs → AreOwn d fs at l1 l2 ss → AreOwn d (es ++ fs) at l0 l2 (rs ++ ss)
  own-then es fs l0 l1 l2 rs ss fits h k =
      let names = names_of d in
      let H : Shape → Type 0 = HasMemories names at in
      let n = own_count (body_cells d) es in
      let m = own_count (body_cells d) fs in
      let many : own_count (body_cells d) (es ++ fs) ≡ n + m = sum_by-append (exp_count (body_cells d)) es fs in
      let first = longer-grows H n l0 l1 h.longer in
      let second = longer-grows H m l1 l2 k.longer in
      record {
        longer = rw many (longer-then H n m l0 l1 l2 h.longer k.longer);
        slots = subst (AreSlots l2 (rs ++ ss)) (sym (map-append (λ e. (form names e).width) es fs))
            (slots-append l2 rs (own_widths names es) ss (own_widths names fs) (slots-stay l1 l2 rs (own_widths names es) second h.slots) k.slots);
        values = λ files s b x sound st.
            let behind = sound-behind names at n s l0 l1 h.longer sound in
            let later = stands-stays names b l0 l1 at x first fits st in
            map-append (held b l2) rs ss
            ∙ (ap (λ z. z ++ map (held b l2) ss) (slots-held b l1 l2 rs (own_widths names es) second h.slots ∙ h.values files s b x sound st)
            ∙ (ap (λ z. map (own_value (scope_of d files) x) es ++ z) (k.values files behind.shape b x behind.sound later)
            ∙ sym (map-append (own_value (scope_of d files) x) es fs)));
      }

  -- a value that is compiled in its own form
  pub own-compiled : (e : Exp) (f : Form) (old new : ListData) (r : Own) → f ≡ form (names_of d) e → r.width ≡ f.width → r.signed ≡ f.signed →
      ((files : List File) → Compiles (names_of d) (scope_of d files) (exp_count (body_cells d) e) e f at old new r.slot) → IsOwn d e at old new r
  own-compiled e f old new r same wide sign h = record {
    longer = (h []).longer;
    slot = subst (λ (z : Form). IsSlot new r.slot z.width) same (h []).slot;
    value = λ files s b x sound st. (h files).value s b x sound st ∙ ap (value (scope_of d files) x e) same;
    width = wide ∙ ap (λ (z : Form). z.width) same;
    signed = sign ∙ ap (λ (z : Form). z.signed) same;
  }

  -- a number
  pub own-number : (v w : ℕ) (old new : ListData) (r : Own) → Fits (names_of d) old at → r.width ≡ w → r.signed ≡ false → Gives Nothing 1 old new r.slot w (λ b. resized false w w v) → IsOwn d (Num v w false) at old new r
  own-number v w old new r fits wide sign g =
      own-compiled (Num v w false) (record { width = w; signed = false }) old new r refl wide sign
      (λ files. num-compiles (scope_of d files) (record { width = w; signed = false }) at v w false 1 old new r.slot (omega arith) fits g)

  -- a descriptor is cut to 32 bits
  pub file-cut : (fd : Exp) (l0 l1 l2 : ListData) (own : Own) (r : ℕ) → Fits (names_of d) l0 at → IsOwn d fd at l0 l1 own →
      Gives Nothing (resizes (width_at l1 own.slot) 32) l1 l2 r 32 (λ b. resized own.signed (width_at l1 own.slot) 32 (held b l1 own.slot)) → AsksFile d fd at l0 l2 r
  file-cut fd l0 l1 l2 own r fits h g =
      let names = names_of d in
      let n = exp_count (body_cells d) fd in
      let few = resizes-most (width_at l1 own.slot) 32 in
      let node : (files : List File) → Holds names (n + 1) at l0 l2 r 32 (λ x. descriptor_of (scope_of d files) x fd) =
      λ files.
      holds-wider names at (n + resizes (width_at l1 own.slot) 32) (n + 1) l0 l2 r 32 (λ x. descriptor_of (scope_of d files) x fd) (omega (arith, few))
      (holds-node names at Nothing n (resizes (width_at l1 own.slot) 32) l0 l1 l2 r 32 (λ b. resized own.signed (width_at l1 own.slot) 32 (held b l1 own.slot)) (λ x. descriptor_of (scope_of d files) x fd)
      (λ s t. tt) fits h.longer g
      (λ s t b x sound behind st later. rw (h.slot.width, h.signed, h.value files s b x sound st) refl)) in
      record {
        longer = (node []).longer;
        slot = (node []).slot;
        value = λ files s b x sound st. (node files).value s b x sound st;
      }

-- what could be compiled still can
pub ready-stays : (d : Flat) (at : Env) (old new : ListData) → Grows old new → IsReady d at old → IsReady d at new
ready-stays d at old new g h = record { sound = h.sound; functions = h.functions; fits = fits-stays (names_of d) old new at g h.fits; first = h.first }

pub ruleset walking = (grows-same, grows-then, ready-stays, form-width)
