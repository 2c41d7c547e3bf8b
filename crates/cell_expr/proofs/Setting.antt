-- Assignments (IEEE 1364-2005, clause 9.2).
use Rattle.std.proofs.Common.{◌≡◌, ℕ, ◌+◌, List, [], ◌∷◌, ◌++◌, map, refl, sym, ap, ◌∙◌, arith, subst, append_assoc, append-nil}
use Rattle.std.proofs.lemmas.List.{map-append}
use Rattle.std.proofs.lemmas.List.Elements.{All-append}
use Rattle.std.specs.Prelude.{Bool, true, false}
use Rattle.vl_design.specs.Syntax.{Exp, Target, NoTargets, Set, Later}
use Rattle.vl_design.specs.Targets as t
use Rattle.vl_design.specs.Exec.{exec}
use Rattle.vl_design.specs.State.{Update}
use Rattle.vl_design.specs.Value.{Sample}
use Rattle.vl_design.specs.Width.{Names, Scope, form, assigned}
use Rattle.cell_emit.specs.cell_form.specs.Data.{ListData, BankData}
use Rattle.cell_emit.specs.cell_form.specs.Sound.{Shape}
use Rattle.cell_emit.specs.Slots.{held, width_at, IsIn}
use Rattle.cell_emit.proofs.Frames.{held-stays, in-stays, width-stays, longer-grows, longer-same, longer-then}
use Rattle.cell_emit.specs.Envs.{Env, Fits, HasMemories}
use Rattle.cell_emit.specs.Paths.{Does, Updates}
use Rattle.cell_emit.proofs.Staying.{stands-stays, sound-behind, longer-plain}
use Rattle.cell_emit.proofs.Walking.{does-set}
use Rattle.cell_emit.specs.Pendings.{PendingSlots, ArePending}
use Rattle.cell_emit.specs.Delays.{Delays, Leaves}
use Rattle.cell_emit.proofs.Leaving.{does-later, leaves-later}
use Rattle.cell_expr.specs.declared.spot.Spot.{Spot}
use Rattle.cell_expr.specs.Compiled.{Compiles}
use Rattle.cell_expr.specs.Spots.{memory_at, IsSpot, spot_in, bits_of, cells_of, stored_by, Spotted, Assigned}
use Rattle.cell_emit.specs.vl_sites.specs.Stored.{target_stored}
use Rattle.cell_expr.specs.Counts.{parts_count, all_parts_count}
use Rattle.vl_design.specs.Sound.{IsSoundExp, IsSoundTarget}
use Rattle.vl_eval.proofs.Widths.{form-width}
use Rattle.cell_expr.proofs.Adding.{spotted-sound, spotted-bits, spotted-cells, spotted-words, assigned-narrow, assigned-wide}
use Rattle.cell_expr.proofs.Spotting.{spots-stay, are-spots-stay, target-width}

bits-both : (xs ys : List Spot) → bits_of (xs ++ ys) ≡ bits_of xs + bits_of ys
bits-both [] ys = omega arith
bits-both (x ∷ xs) ys = let e = bits-both xs ys in omega (arith, e)

cells-both : (later : Bool) (xs ys : List Spot) → cells_of later (xs ++ ys) ≡ cells_of later xs + cells_of later ys
cells-both later [] ys = omega arith
cells-both later (x ∷ xs) ys = let e = cells-both later xs ys in omega (arith, e)

stored-both : (xs ys : List Spot) → stored_by (xs ++ ys) ≡ stored_by xs ++ stored_by ys
stored-both [] ys = refl
stored-both (x ∷ xs) ys = ap (λ z. memory_at x.signal x.word ++ z) (stored-both xs ys) ∙ sym (append_assoc (memory_at x.signal x.word) (stored_by xs) (stored_by ys))

-- ---- spots of a target after those of others

pub spotted-none : (names : Names) (at : Env) (l : ListData) (before : List Spot) → Spotted names 0 at l l before before 0 (all_parts_count NoTargets) [] (λ x. [])
spotted-none names at l before = record {
  longer = longer-same (HasMemories names at) l;
  more = [];
  are = sym (append-nil before);
  sound = λ i d h. absurd (omega arith);
  value = λ s b x sound st. refl;
  wide = refl;
  many = λ later. refl;
  words = refl;
}

pub spotted-then : (names : Names) (n m : ℕ) (at : Env) (old mid new : ListData) (first before after : List Spot) (v w : ℕ) (p q pq : Bool → ℕ) (ms ns : List ℕ) (f g : Sample → List t.Spot) → ((later : Bool) → p later + q later ≡ pq later) → Fits names old at →
    Spotted names n at old mid first before v p ms f → Spotted names m at mid new before after w q ns g → Spotted names (n + m) at old new first after (v + w) pq (ms ++ ns) (λ x. f x ++ g x)
spotted-then names n m at old mid new first before after v w p q pq ms ns f g sum fits a c =
    let H : Shape → Type 0 = HasMemories names at in
    let late = longer-grows H m mid new c.longer in
    let wide-a = a.wide in
    let wide-c = c.wide in
    let bits = bits-both a.more c.more in
    record {
      longer = longer-then H n m old mid new a.longer c.longer;
      more = a.more ++ c.more;
      are = c.are ∙ (ap (λ z. z ++ c.more) a.are ∙ append_assoc first a.more c.more);
      sound = All-append (IsSpot names at.first new) a.more c.more (are-spots-stay names at.first mid new a.more late a.sound) c.sound;
      value = λ s b x sound st.
          let behind = sound-behind names at n s old mid a.longer sound in
          let st-mid = stands-stays names b old mid at x (longer-grows H n old mid a.longer) fits st in
          map-append (spot_in names.rows b new) a.more c.more
          ∙ ap (λ z. z ++ map (spot_in names.rows b new) c.more) (spots-stay names at.first b mid new a.more late a.sound ∙ a.value s b x sound st)
          ∙ ap (λ z. f x ++ z) (c.value behind.shape b x behind.sound st-mid);
      wide = bits ∙ omega (arith, wide-a, wide-c);
      many = λ later. (
          let many-a = a.many later in
          let many-c = c.many later in
          let both = sum later in cells-both later a.more c.more ∙ omega (arith, many-a, many-c, both));
      words = stored-both a.more c.more ∙ ap (λ z. z ++ stored_by c.more) a.words ∙ ap (λ z. ms ++ z) c.words;
    }

-- ---- the whole assignment

-- a value and the spots of its target behind it
pub are-assigned : (scope : Scope) (target : Target) (e : Exp) (n m slot : ℕ) (spots : List Spot) (at : Env) (l0 l1 l2 : ListData) → IsSoundTarget scope.names target → IsSoundExp scope.names e → Fits scope.names l0 at →
    Compiles scope.names scope n e (assigned (t.target_width scope.names target) (form scope.names e)) at l0 l1 slot →
    Spotted scope.names m at l1 l2 [] spots (t.target_width scope.names target) (parts_count target) (target_stored target) (λ x. t.spots scope x target) → Assigned scope (n + m) target e at l0 l2 spots slot
are-assigned scope target e n m slot spots at l0 l1 l2 kt ke fits value-is spotted =
    let names = scope.names in
    let H : Shape → Type 0 = HasMemories names at in
    let k = parts_count target in
    let ms = target_stored target in
    let w = t.target_width names target in
    let f = form names e in
    let g12 = longer-grows H m l1 l2 spotted.longer in
    let wide : width_at l2 slot ≡ (assigned w f).width = width-stays l1 l2 slot g12 value-is.slot.there ∙ value-is.slot.width in
    let bits = spotted-bits names m at l1 l2 [] spots w k ms (λ x. t.spots scope x target) refl spotted in
    record {
      longer = longer-then H n m l0 l1 l2 value-is.longer spotted.longer;
      sound = spotted-sound names m at l1 l2 [] spots w k ms (λ x. t.spots scope x target) refl spotted;
      many = spotted-cells names m at l1 l2 [] spots w k ms (λ x. t.spots scope x target) refl spotted;
      words = spotted-words names m at l1 l2 [] spots w k ms (λ x. t.spots scope x target) refl spotted;
      there = in-stays l1 l2 slot g12 value-is.slot.there;
      within = rw (bits, wide) (assigned-wide w f);
      narrow = rw wide (assigned-narrow w f (target-width names target kt).narrow (form-width names e ke).narrow);
      updates = λ s b x sound st.
          let behind = sound-behind names at n s l0 l1 value-is.longer sound in
          let st1 = stands-stays names b l0 l1 at x (longer-grows H n l0 l1 value-is.longer) fits st in
          ap (λ zs. t.updates_at (map (spot_in names.rows b l2) zs) (held b l2 slot)) spotted.are
          ∙ ap (λ zs. t.updates_at zs (held b l2 slot)) (spotted.value behind.shape b x behind.sound st1)
          ∙ ap (t.updates_at (t.spots scope x target)) (held-stays b l1 l2 slot g12 value-is.slot.there ∙ value-is.value s b x sound st);
    }

module _ (scope : Scope) (target : Target) (e : Exp) (n slot : ℕ) (spots : List Spot) (at : Env) (l0 l1 l2 : ListData) (fits : Fits scope.names l0 at) (given : Assigned scope n target e at l0 l1 spots slot) where
  abbrev updates : BankData → List Update
  updates b = t.updates_at (map (spot_in scope.names.rows b l1) spots) (held b l1 slot)

  pub set-does : (off : ℕ) (at' : Env) → IsIn l0 off → Updates scope.names (cells_of false spots) updates off at at' l1 l2 → Does scope.names (n + parts_count target false) (exec scope (Set target e)) off at at' l0 l2
  set-does off at' inside d =
      does-set scope target e n (parts_count target false) updates off at at' l0 l1 l2 fits inside given.longer given.updates (subst (λ z. Updates scope.names z updates off at at' l1 l2) (given.many false) d)

  pub later-does : (off : ℕ) (p p' : PendingSlots) → Delays scope.names (cells_of true spots) updates off p p' l1 l2 → Does scope.names (n + parts_count target true) (exec scope (Later target e)) off at at l0 l2
  later-does off p p' d =
      let H : Shape → Type 0 = HasMemories scope.names at in
      let k = parts_count target true in
      let many = given.many true in
      does-later scope target e (n + k) off at l0 l2 fits (longer-then H n k l0 l1 l2 given.longer (longer-plain scope.names at (cells_of true spots) k l1 l2 (omega (arith, many)) d.longer))

  pub later-leaves : (off : ℕ) (p p' : PendingSlots) → ArePending scope.names l0 p → IsIn l0 off → Delays scope.names (cells_of true spots) updates off p p' l1 l2 → Leaves scope.names (exec scope (Later target e)) off at p p' l0 l2
  later-leaves off p p' pending inside d = leaves-later scope target e n (cells_of true spots) updates off at p p' l0 l1 l2 fits pending inside given.longer given.updates d
