-- Calls from their first preparation to their last note.
use Rattle.std.proofs.Common.{◌≡◌, ℕ, List, [], ◌++◌, refl, sym, ap, ◌∙◌, subst, append_assoc, arith, inl, inr}
use Rattle.std.proofs.lemmas.List.{append_cancel_left}
use Rattle.std.specs.Prelude.{◌⊎◌}
use Rattle.fab_core.specs.fab_lock.specs.declared.entry.Entry.{Entry}
use Rattle.fab_core.specs.fab_model.specs.Fabrics.{Fabric}
use Rattle.fab_core.specs.fab_model.specs.Worlds.{run}
use Rattle.fab_core.specs.fab_model.specs.declared.transit.Transit.{Transit}
use Rattle.fab_bay.specs.declared.berth.Berth.{Berth}
use Rattle.fab_bay.specs.declared.noted.NotedCore.{NotedCore}
use Rattle.fab_bay.specs.Berths.{AreSettled}
use Rattle.fab_bay.specs.Rounds.{IsReady}
use Rattle.fab_bay.specs.Standing.{CanSettle, IsBay, IsNoted}
use Rattle.fab_bay.specs.Ways.{Goes, Settles, Way}
use Rattle.fab_bay.specs.Marks.{AreWhole}
use Rattle.fab_core.specs.fab_model.specs.declared.note.Note.{Note}
use Rattle.fab_bay.proofs.Going.{andThen, noted-along, opened, stays, whole-append}

-- all is the same, but room and what is told
pub record IsLike (x y : NotedCore) : Type 0 where
  pub label : y.label ≡ x.label
  pub core : y.core ≡ x.core
  pub berths : y.berths ≡ x.berths
  pub waiting : y.waiting ≡ x.waiting
  pub notes : y.notes.items ≡ x.notes.items

pub noted-like : (x y : NotedCore) (f : Fabric) → IsLike x y → IsNoted x f → IsNoted y f
noted-like x y f s n = noted-along x y f s.label s.core s.berths s.waiting s.notes n

pub like-stays : (k : ℕ) (x y : NotedCore) (said : List Entry) (out : List Transit) → IsLike x y → Way k 0 x y said said out out
like-stays k x y said out s = stays k x y said out s.label s.core s.berths s.waiting s.notes

pub bay-like : (x y : NotedCore) → IsLike x y → IsBay x → IsBay y
bay-like x y s b = record {
  fabric = b.fabric;
  noted = noted-like x y b.fabric s b.noted;
  settled = subst (λ (bs : List Berth). AreSettled bs b.fabric.residents) (sym (ap (λ v. v.items) s.berths)) b.settled;
}

-- a call begins at x, with nothing told at b; what it does leads to c, and what is written then to d; e is the same with what was told taken away
module _ (k n : ℕ) (x b c d e : NotedCore) (said : List Entry) (out : List Transit) where
  pub whole : IsLike x b → b.told.items ≡ [] → Goes k n b c [] out → Settles k c d out → IsLike d e → said ≡ d.told.items → Way k n x e [] said [] out
  whole begins none goes settles ends told =
      let first : Way k 0 x b [] b.told.items [] [] = subst (λ (es : List Entry). Way k 0 x b [] es [] []) (sym none) (like-stays k x b [] [] begins) in
      let behind : Way k n x c [] c.told.items [] out = andThen k 0 n n x b c [] b.told.items c.told.items [] [] out first (opened k n b c b.told.items c.told.items [] out goes) (omega arith) in
      let written : Way k n x d [] d.told.items [] out = andThen k n 0 n x c d [] c.told.items d.told.items [] out out behind settles (omega arith) in
      let last : Way k 0 d e d.told.items said out out = subst (λ (es : List Entry). Way k 0 d e d.told.items es out out) (sym told) (like-stays k d e d.told.items out ends) in
      andThen k n 0 n x d e [] d.told.items said [] out out written last (omega arith)

-- what a call writes is what it wrote before its last notes, and those
pub all-added : (k n : ℕ) (x b m d e : NotedCore) (said : List Entry) (out : List Transit) → IsLike x b → IsLike d e → (g : Goes k n b m [] out) (h : Settles k m d out) (way : Way k n x e [] said [] out)
    → way.added ≡ g.added ++ h.added
all-added k n x b m d e said out begins ends g h way =
    append_cancel_left x.notes.items way.added (g.added ++ h.added)
    (sym way.notes
    ∙ (ends.notes
    ∙ (h.notes ∙ (ap (λ (ns : List Note). ns ++ h.added) (g.notes ∙ ap (λ (ns : List Note). ns ++ g.added) begins.notes) ∙ append_assoc x.notes.items g.added h.added))))

pub all-whole : (k n : ℕ) (x b m d e : NotedCore) (said : List Entry) (out : List Transit) → IsLike x b → IsLike d e → (g : Goes k n b m [] out) (h : Settles k m d out) (way : Way k n x e [] said [] out)
    → ((added : List Note) → d.notes.items ≡ m.notes.items ++ added → AreWhole added) → AreWhole way.added
all-whole k n x b m d e said out begins ends g h way last =
    subst (λ (ns : List Note). AreWhole ns) (sym (all-added k n x b m d e said out begins ends g h way)) (whole-append g.added h.added (g.runs refl) (last h.added h.notes))

pub bay-again : (k : ℕ) (c d e : NotedCore) → IsReady c → Settles k c d [] → ((f : Fabric) → IsNoted d f → AreSettled d.berths.items f.residents) → IsLike d e → IsBay e
bay-again k c d e r g settled s =
    let f = (run g.events (record { fabric = r.fabric; transit = [] })).fabric in
    let n : IsNoted d f = (g.leads r.fabric [] r.noted tt).0 in
    bay-like d e s (record { fabric = f; noted = n; settled = settled f n })

-- of two, the second further on
pub second-on : (A B C : Type 0) → (B → C) → (A ⊎ B) → (A ⊎ C)
second-on A B C f (inl a) = inl a
second-on A B C f (inr b) = inr (f b)
