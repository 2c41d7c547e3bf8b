-- Displays piece by piece.
use Rattle.std.proofs.Common.{◌≡◌, refl, sym, ap, ◌∙◌, subst, ℕ, Bool, true, false, List, [], ◌∷◌, ◌++◌, append_assoc, append-nil}
use Rattle.std.specs.Prelude.{All, Option, Some, None, is_some}
use Rattle.std.specs.List.{AllByRecursion}
use Rattle.std.proofs.lemmas.List.Elements.{All-from_recursion, recursion_from_All}
use Rattle.vl_base.specs.Display.{Format, format_of}
use Rattle.vl_design.specs.Sound.{IsSoundExp, IsSoundPiece}
use Rattle.vl_design.specs.Syntax.{Exp, Piece, Literal, Shown, Flat}
use Rattle.vl_design.specs.Formats.{with_item, taken}
use Rattle.vl_design.specs.Width.{Names, form, names_of}
use Rattle.cell_emit.specs.cell_form.specs.Data.{ListData}
use Rattle.cell_emit.specs.Envs.{Env, Fits}
use Rattle.ten_form.specs.Asked.{shown}
use Rattle.cell_calls.specs.declared.display.Display.{Display}
use Rattle.cell_calls.specs.declared.own.Own.{Own}
use Rattle.cell_calls.specs.Displays.{parts_in, Extends, Alike, IsOwn, Adds, Walked}
use Rattle.cell_calls.proofs.Extending.{shown-append, extends-none, extends-then, extends-alike}
use Rattle.cell_calls.proofs.Formatting.{alike-same, alike-then, alike-behind}
use Rattle.cell_calls.proofs.Owning.{own-none, own-one, own-then}

-- ---- expressions of pieces

pub pieces-shown : (names : Names) (ps : List Piece) → All (IsSoundPiece names) ps → All (IsSoundExp names) (shown ps)
pieces-shown names ps h = All-from_recursion (IsSoundExp names) (shown ps) (go ps (recursion_from_All (IsSoundPiece names) ps h))
  where
    go : (qs : List Piece) → AllByRecursion (IsSoundPiece names) qs → AllByRecursion (IsSoundExp names) (shown qs)
    go [] k = tt
    go (Literal text ∷ qs) k = go qs k.1
    go (Shown format e ∷ qs) k = (k.0, go qs k.1)

module _ (P : Exp → Type 0) where
  left : (es fs : List Exp) → AllByRecursion P (es ++ fs) → AllByRecursion P es
  left [] fs h = tt
  left (e ∷ es) fs h = (h.0, left es fs h.1)

  right : (es fs : List Exp) → AllByRecursion P (es ++ fs) → AllByRecursion P fs
  right [] fs h = h
  right (e ∷ es) fs h = right es fs h.1

  pub first-of : (all es fs : List Exp) → all ≡ es ++ fs → All P all → All P es
  first-of all es fs e h = All-from_recursion P es (left es fs (recursion_from_All P (es ++ fs) (subst (All P) e h)))

  pub rest-of : (all es fs : List Exp) → all ≡ es ++ fs → All P all → All P fs
  rest-of all es fs e h = All-from_recursion P fs (right es fs (recursion_from_All P (es ++ fs) (subst (All P) e h)))

module _ (d : Flat) (at : Env) where
  abbrev names : Names
  names = names_of d

  -- ---- a display with more pieces

  pub adds-none : (a : Display) (l : ListData) → Adds d [] at a a l l
  adds-none a l = record { parts = extends-none names (parts_in a); more = []; slots = sym (append-nil a.slots.items); own = own-none d at l }

  pub adds-then : (ps qs : List Piece) (a b c : Display) (l0 l1 l2 : ListData) → Fits names l0 at → Adds d ps at a b l0 l1 → Adds d qs at b c l1 l2 → Adds d (ps ++ qs) at a c l0 l2
  adds-then ps qs a b c l0 l1 l2 fits h k = record {
    parts = extends-then names ps qs (parts_in a) (parts_in b) (parts_in c) h.parts k.parts;
    more = h.more ++ k.more;
    slots = k.slots ∙ (ap (λ z. z ++ k.more) h.slots ∙ append_assoc a.slots.items h.more k.more);
    own = rw (shown-append ps qs) (own-then d at (shown ps) (shown qs) l0 l1 l2 h.more k.more fits h.own k.own);
  }

  pub adds-alike : (ps qs : List Piece) (a b : Display) (l l' : ListData) → Alike names qs ps → Adds d ps at a b l l' → Adds d qs at a b l l'
  adds-alike ps qs a b l l' e h = record {
    parts = extends-alike names ps qs (parts_in a) (parts_in b) e h.parts;
    more = h.more;
    slots = h.slots;
    own = rw e.shown h.own;
  }

  pub adds-text : (t : List ℕ) (a b : Display) (l : ListData) → ((names : Names) → Extends names (Literal t ∷ []) (parts_in a) (parts_in b)) → b.slots.items ≡ a.slots.items → Adds d (Literal t ∷ []) at a b l l
  adds-text t a b l h e = record { parts = h names; more = []; slots = e ∙ sym (append-nil a.slots.items); own = own-none d at l }

  pub adds-item : (format : Format) (e : Exp) (a b : Display) (l l' : ListData) (own : Own) → IsOwn d e at l l' own → Extends names (Shown format e ∷ []) (parts_in a) (parts_in b) → b.slots.items ≡ a.slots.items ++ own.slot ∷ [] →
      Adds d (Shown format e ∷ []) at a b l l'
  adds-item format e a b l l' own h parts slots = record { parts = parts; more = own.slot ∷ []; slots = slots; own = own-one d at e l l' own h }

  -- ---- a display of all pieces but a rest

  pub walked-none : (all : List Piece) (a : Display) (l : ListData) → Walked d all all at a a l l
  walked-none all a l = record { done = []; alike = alike-same names all; adds = adds-none a l }

  pub walked-adds : (ps rest : List Piece) (a b : Display) (l l' : ListData) → Adds d ps at a b l l' → Walked d (ps ++ rest) rest at a b l l'
  walked-adds ps rest a b l l' h = record { done = ps; alike = alike-same names (ps ++ rest); adds = h }

  pub walked-then : (all mid rest : List Piece) (a b c : Display) (l0 l1 l2 : ListData) → Fits names l0 at → Walked d all mid at a b l0 l1 → Walked d mid rest at b c l1 l2 → Walked d all rest at a c l0 l2
  walked-then all mid rest a b c l0 l1 l2 fits h k =
      let assoc : h.done ++ (k.done ++ rest) ≡ (h.done ++ k.done) ++ rest = sym (append_assoc h.done k.done rest) in
      record {
        done = h.done ++ k.done;
        alike = rw (← assoc) (alike-then names all (h.done ++ mid) (h.done ++ (k.done ++ rest)) h.alike (alike-behind names h.done mid (k.done ++ rest) k.alike));
        adds = adds-then h.done k.done a b c l0 l1 l2 fits h.adds k.adds;
      }

  pub walked-sound : (all rest : List Piece) (a b : Display) (l l' : ListData) → Walked d all rest at a b l l' → All (IsSoundExp names) (shown all) → All (IsSoundExp names) (shown rest)
  walked-sound all rest a b l l' h sound = rest-of (IsSoundExp names) (shown all) (shown h.done) (shown rest) (h.alike.shown ∙ shown-append h.done rest) sound

  pub walked-all : (all : List Piece) (a b : Display) (l l' : ListData) → Walked d all [] at a b l l' → Adds d all at a b l l'
  walked-all all a b l l' h = adds-alike h.done all a b l l' (subst (Alike names all) (append-nil h.done) h.alike) h.adds

  -- ---- the item of a letter, where it is one

  pub adds-no-letter : (o : Option Format) (e : Exp) (a : Display) (l : ListData) → is_some o ≡ false → Adds d (with_item o e []) at a a l l
  adds-no-letter None e a l h = adds-none a l
  adds-no-letter (Some format) e a l h = let z : ⊥ = cc in absurd z

  pub adds-letter : (letter : ℕ) (least : Bool) (e : Exp) (a b : Display) (l l' : ListData) (own : Own) → is_some (format_of letter least) ≡ true → IsOwn d e at l l' own →
      ((names : Names) (format : Format) (e : Exp) → format_of letter least ≡ Some format → own.width ≡ (form names e).width → own.signed ≡ (form names e).signed → Extends names (Shown format e ∷ []) (parts_in a) (parts_in b)) →
      b.slots.items ≡ a.slots.items ++ own.slot ∷ [] → Adds d (with_item (format_of letter least) e []) at a b l l'
  adds-letter letter least e a b l l' own h owns parts slots = of (format_of letter least) refl h
    where
      of : (o : Option Format) → format_of letter least ≡ o → is_some o ≡ true → Adds d (with_item o e []) at a b l l'
      of None i j = let z : ⊥ = cc in absurd z
      of (Some format) i j = adds-item format e a b l l' own owns (parts names format e i owns.width owns.signed) slots

pub letter-sound : (names : Names) (o : Option Format) (e : Exp) → is_some o ≡ true → All (IsSoundExp names) (shown (with_item o e [])) → IsSoundExp names e
letter-sound names None e h k = let z : ⊥ = cc in absurd z
letter-sound names (Some format) e h k = (recursion_from_All (IsSoundExp names) (e ∷ []) k).0

pub head-of : (P : Exp → Type 0) (e : Exp) (es : List Exp) → All P (e ∷ es) → P e
head-of P e es h = (recursion_from_All P (e ∷ es) h).0
