-- A snapshot with its note.
use Rattle.std.proofs.Common.{◌≡◌, ℕ, ◌++◌, Bool, true, false, List, [], ◌∷◌, Option, Some, refl, sym, ap, ◌∙◌, subst}
use Rattle.std.specs.Prelude.{if◌then◌else◌, ◌&&◌, not}
use Rattle.std.proofs.lemmas.List.{append-nil}
use Rattle.ten_core.specs.sub_nodes.specs.Code.{table_of}
use Rattle.ten_core.specs.sub_nodes.specs.Stands.{at_trap}
use Rattle.fab_core.specs.fab_lock.specs.declared.entry.Kind.TheVariants as kind
use Rattle.fab_core.specs.fab_model.specs.Points.{Point, called, run_in, saved, served, tick_of, waits}
use Rattle.fab_core.specs.fab_model.specs.Fabrics.{all_served, first_of, Fabric}
use Rattle.fab_core.specs.fab_model.specs.Worlds.{serves, World, Serve}
use Rattle.fab_core.specs.Standing.{IsFabric}
use Rattle.fab_core.specs.fab_model.specs.declared.note.Note.{Note}
use Rattle.fab_core.specs.fab_model.specs.declared.transit.Transit.{Transit}
use Rattle.fab_bay.specs.declared.noted.NotedCore.{NotedCore}
use Rattle.fab_bay.specs.Marks.{mark_of, save_for, AreClosed, Mark}
use Rattle.fab_bay.specs.Standing.{IsNoted}
use Rattle.fab_bay.specs.Ways.{tokens, AreOut, Goes, IsWritten}
use Rattle.fab_bay.proofs.Events.{first-is, first-number, serve-noted, Core}
use Rattle.fab_bay.proofs.Kept.{goes_by, written_none, written_then}
use Rattle.fab_bay.proofs.Steps.{CallTicksLaw}

abbrev pub saved_at : ℕ → ℕ → Mark
saved_at t k = record { kind = kind.Saved; tenant = t; tick = k }

-- a snapshot doesn't move it
still_there : (p : Point) → at_trap (table_of (run_in p).flat) p.stage ≡ false → tick_of (served p) ≡ tick_of p
still_there p e = ap (λ (b : Bool). tick_of (if b then called p else saved p)) e

-- a resident that waits for a snapshot is served, and then that is written
pub goes-saved : CallTicksLaw → (k t tick : ℕ) (x z u : NotedCore) (out : List Transit) → Core x z → ((f : Fabric) → IsFabric x.core f → IsFabric z.core (all_served t f))
    → ((f : Fabric) → IsNoted x f → (p : Point) × (first_of t f.residents ≡ Some p) × (waits p ≡ true) × (at_trap (table_of (run_in p).flat) p.stage ≡ false))
    → IsWritten k z u [] (saved_at t tick ∷ []) → ((added : List Note) → u.notes.items ≡ z.notes.items ++ added → AreClosed added) → ((f : Fabric) → IsNoted z f → IsNoted u f)
    → ((f : Fabric) (p : Point) → IsNoted z f → first_of t f.residents ≡ Some p → tick ≡ tick_of p) → Goes k 0 x u out out
goes-saved same k t tick x z u out c go waiting w closed kept at =
    goes_by k 0 x u out out [] (saved_at t tick ∷ []) (Serve t ∷ []) (written_then k x z u [] [] [] (saved_at t tick ∷ []) (written_none k x z c.label c.notes c.told) w)
    (λ added e. closed added (e ∙ ap (λ (l : List Note). l ++ added) (sym c.notes))) (sym (append-nil (tokens out))) refl
    (λ f ps h o.
    let p = waiting f h in
    let w : World = record { fabric = f; transit = ps } in
    let v : World = record { fabric = all_served t f; transit = ps } in
    let is : serves w t (first_of t f.residents) ≡ v = ap (serves w t) p.1 ∙ ap (λ b. if b then v else w) p.2 in
    subst (λ (a : World). IsNoted u a.fabric × AreOut out a.transit) (sym is) (kept (all_served t f) (serve-noted same t x z f c (go f h.core) h), o))
    (λ f ps h o. (tt, tt))
    (λ f ps h o.
    let w = waiting f h in
    let q : Point = w.0 in
    let one : Bool → List Mark = λ b. if b then mark_of kind.Saved q ∷ [] else [] in
    let behind = serve-noted same t x z f c (go f h.core) h in
    let tick_is : tick ≡ tick_of q = at (all_served t f) (served q) behind (first-is t f.residents q w.1) ∙ still_there q w.3 in
    let mark_is : saved_at t tick ≡ mark_of kind.Saved q = ap (λ (n : ℕ). saved_at n tick) (sym (first-number t f.residents q w.1)) ∙ ap (saved_at q.number) tick_is in
    ap (λ (m : Mark). m ∷ []) mark_is
    ∙ sym
    (ap (λ (o : Option Point). save_for o ++ []) w.1
    ∙ (ap (λ (b : Bool). one (b && not (at_trap (table_of (run_in q).flat) q.stage)) ++ []) w.2 ∙ ap (λ (b : Bool). one (not b) ++ []) w.3)))
