-- The faults of processes one after another, by what the marks tell.
use Rattle.std.proofs.Common.{◌≡◌, refl, sym, ap, ◌∙◌, ℕ, ◌+◌, ◌<◌, Bool, true, false, List, [], ◌∷◌, length, get_or, map, take, drop, subst}
use Rattle.std.specs.Prelude.{◌++◌, ◌&&◌, ◌||◌, if◌then◌else◌, Option}
use Rattle.std.specs.List.{list_any}
use Rattle.std.proofs.lemmas.List.{at_drop_more, take_more, map-append}
use Rattle.std.proofs.lemmas.List.Folds.{list_any-append}
use Rattle.vl_design.specs.declared.design.Process.{Process as Code}
use Rattle.vl_design.specs.Seen.{process_of}
use Rattle.vl_design.specs.declared.design.Signal.{Signal}
use Rattle.vl_design.specs.declared.design.ProcKind.{ProcKind}
use Rattle.vl_design.specs.declared.stop.Stop.{Stop}
use Rattle.vl_design.specs.Placed.{Process, Design}
use Rattle.vl_design.specs.Stops.{earliest, construct_if}
use Rattle.vl_sites.specs.Sites.{What, Reads, Sets, Heads, Calls, Delays, Tasks, Site, sites}
use Rattle.vl_design.proofs.Earliest.{over, chain-three}
use Rattle.vl_check.specs.declared.place.Role.{Role}
use Rattle.vl_check.specs.declared.writers.Writers.{Writers}
use Rattle.vl_check.specs.Bodies.{role_of, of_process, kind_is}
use Rattle.vl_check.specs.Standing.{body_faults, process_faults, processes_faults}
use Rattle.vl_check.specs.Told.{taken_by, process_by, Notes, AreTold}
use Rattle.vl_check.specs.Triggers.{trigger_faults}
use Rattle.vl_check.specs.Writers.{writes, assigns, is_always, is_combinational, is_store, is_taken, is_second}
use Rattle.vl_check.proofs.Marking.{any-same, there}
use Rattle.vl_check.proofs.Rivals.{second-told}

pub process-stop : (d : Design) (a : Process) (role : Role) (signals : List Signal) (all : List Site) (w : Writers) (best own trigger r : Option Stop)
    → role ≡ role_of a.kind → signals ≡ d.signals → all ≡ sites a.body
    → own ≡ earliest best (body_faults (record { role = role; shared = signals; own = [] }) a.body)
    → trigger ≡ earliest own (trigger_faults signals a)
    → r ≡ earliest trigger (construct_if (list_any (λ s. taken_by w signals a.kind s.what) all) a.place 14)
    → r ≡ earliest best (process_by w d a)
process-stop d a role signals all w best own trigger r x y z h k j =
    chain-three best own trigger r (body_faults (of_process d a) a.body) (trigger_faults d.signals a) (construct_if (list_any (λ s. taken_by w d.signals a.kind s.what) (sites a.body)) a.place 14)
    (h ∙ (ap (λ (q : Role). earliest best (body_faults (record { role = q; shared = signals; own = [] }) a.body)) x
    ∙ ap (λ (q : List Signal). earliest best (body_faults (record { role = role_of a.kind; shared = q; own = [] }) a.body)) y))
    (k ∙ ap (λ q. earliest own (trigger_faults q a)) y)
    (j ∙ (ap (λ q. earliest trigger (construct_if (list_any (λ s. taken_by w q a.kind s.what) all) a.place 14)) y
    ∙ ap (λ q. earliest trigger (construct_if (list_any (λ s. taken_by w d.signals a.kind s.what) q) a.place 14)) z))

-- ---- marks that tell of the processes before

module _ (signals : List Signal) (before : List Process) (w : Writers) (told : AreTold (length signals) before w) (a : Process) where
  second-is : (k : ℕ) → kind_is is_store signals k ≡ true
      → ((is_combinational a.kind && get_or w.any.items k false) || ((is_always a.kind && get_or w.always.items k false) || get_or w.combinational.items k false)) ≡ is_second before a k
  second-is k h =
      let l = there is_store signals k h in
      ap (λ z. (is_combinational a.kind && z) || ((is_always a.kind && get_or w.always.items k false) || get_or w.combinational.items k false)) (told.any k l)
      ∙ (ap (λ z. (is_combinational a.kind && list_any (writes k) before) || ((is_always a.kind && z) || get_or w.combinational.items k false)) (told.always k l)
      ∙ (ap (λ z. (is_combinational a.kind && list_any (writes k) before) || ((is_always a.kind && list_any (λ b. is_always b.kind && writes k b) before) || z)) (told.combinational k l)
      ∙ second-told k a before))

  guarded : (k : ℕ) (t x y : Bool) → (t ≡ true → x ≡ y) → (t && x) ≡ (t && y)
  guarded k true x y h = h refl
  guarded k false x y h = refl

  taken-is : (what : What) → taken_by w signals a.kind what ≡ is_taken signals before a what
  taken-is (Sets k word later) = guarded k (kind_is is_store signals k) _ _ (second-is k)
  taken-is (Heads k) = guarded k (kind_is is_store signals k) _ _ (second-is k)
  taken-is (Reads k) = refl
  taken-is (Calls f) = refl
  taken-is Delays = refl
  taken-is (Tasks name given) = refl

pub by-told : (d : Design) (before : List Process) (w : Writers) (a : Process) → AreTold (length d.signals) before w → process_by w d a ≡ process_faults d before a
by-told d before w a told =
    ap (λ z. body_faults (of_process d a) a.body ++ (trigger_faults d.signals a ++ construct_if z a.place 14))
    (any-same _ _ (λ (s : Site). taken-is d.signals before w told a s.what) (sites a.body))

-- ---- the marks behind one more

either : (p q : Bool) → (if p then true else q) ≡ (q || p)
either true true = refl
either true false = refl
either false true = refl
either false false = refl

one-more : {A : Type 0} (f : A → Bool) (before : List A) (a : A) (p q r : Bool) → p ≡ f a → q ≡ list_any f before → r ≡ (if p then true else q) → r ≡ list_any f (before ++ (a ∷ []))
one-more f before a p q r h k j = j ∙ (either p q ∙ (ap (λ z. z || p) k ∙ (ap (λ z. list_any f before || z) (h ∙ single (f a)) ∙ sym (list_any-append f before (a ∷ [])))))
  where
    single : (b : Bool) → b ≡ (b || false)
    single true = refl
    single false = refl

pub told-more : (n : ℕ) (before : List Process) (a : Process) (kind : ProcKind) (all : List Site) (old new : Writers) → kind ≡ a.kind → all ≡ sites a.body
    → AreTold n before old → Notes n kind all old new → AreTold n (before ++ (a ∷ [])) new
told-more n before a kind all old new x y told notes = record {
  any = λ k l. one-more (writes k) before a _ _ _ (ap (list_any (λ s. assigns k s.what)) y) (told.any k l) (notes.any k l);
  always = λ k l. one-more (λ b. is_always b.kind && writes k b) before a _ _ _ (ap (λ z. is_always z && list_any (λ s. assigns k s.what) all) x ∙ ap (λ z. is_always a.kind && list_any (λ s. assigns k s.what) z) y) (told.always k l) (notes.always k l);
  combinational = λ k l. one-more (λ b. is_combinational b.kind && writes k b) before a _ _ _ (ap (λ z. is_combinational z && list_any (λ s. assigns k s.what) all) x ∙ ap (λ z. is_combinational a.kind && list_any (λ s. assigns k s.what) z) y) (told.combinational k l) (notes.combinational k l);
}

-- ---- one process more

taken-more : (ps : List Code) (i : ℕ) (y : Code) → i < length ps → y ≡ get_or ps i y → map process_of (take (i + 1) ps) ≡ map process_of (take i ps) ++ (process_of y ∷ [])
taken-more ps i y h is =
    ap (map process_of) (take_more ps i y h ∙ ap (λ z. take i ps ++ (z ∷ [])) (sym is))
    ∙ map-append process_of (take i ps) (y ∷ [])

pub told-next : (n : ℕ) (ps : List Code) (i : ℕ) (y : Code) (old new : Writers) → i < length ps → y ≡ get_or ps i y
    → AreTold n (map process_of (take i ps)) old → Notes n y.kind (sites (process_of y).body) old new → AreTold n (map process_of (take (i + 1) ps)) new
told-next n ps i y old new h is told notes =
    subst (λ z. AreTold n z new) (sym (taken-more ps i y h is))
    (told-more n (map process_of (take i ps)) (process_of y) y.kind (sites (process_of y).body) old new refl refl told notes)

pub faults-next : (d : Design) (ps : List Code) (i : ℕ) (y : Code) (w : Writers) (first next r : Option Stop) → i < length ps → y ≡ get_or ps i y
    → AreTold (length d.signals) (map process_of (take i ps)) w → next ≡ earliest first (process_by w d (process_of y))
    → earliest first (processes_faults d (map process_of (take i ps)) (map process_of (drop i ps))) ≡ r
    → earliest next (processes_faults d (map process_of (take (i + 1) ps)) (map process_of (drop (i + 1) ps))) ≡ r
faults-next d ps i y w first next r h is told k inv =
    let before = map process_of (take i ps) in
    let a = process_of y in
    let left = map process_of (drop (i + 1) ps) in
    ap (λ z. earliest next (processes_faults d z left)) (taken-more ps i y h is)
    ∙ (over first next (process_faults d before a) (processes_faults d (before ++ (a ∷ [])) left) (k ∙ ap (earliest first) (by-told d before w a told))
    ∙ (sym (ap (λ z. earliest first (processes_faults d before (map process_of z))) (at_drop_more (λ z. z) ps i y h ∙ ap (λ z. z ∷ drop (i + 1) ps) (sym is))) ∙ inv))
