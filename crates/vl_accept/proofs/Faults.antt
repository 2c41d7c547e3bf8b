-- What the processes of a design without faults don't do.
use Rattle.std.proofs.Common.{◌≡◌, ℕ, Bool, true, false, List, [], ◌∷◌, ◌++◌, refl, sym, ap, ◌∙◌, subst}
use Rattle.std.specs.Prelude.{◌||◌, ◌&&◌, ◌==◌, flat_map}
use Rattle.std.specs.List.{list_any}
use Rattle.std.proofs.lemmas.Bool.{eqb-true}
use Rattle.std.proofs.lemmas.List.{append_assoc, append-nil}
use Rattle.vl_check.specs.vl_design.specs.declared.design.ProcKind.{ProcKind}
use Rattle.vl_check.specs.vl_design.specs.declared.design.ProcKind.TheVariants.{Init, Rise, Fall, Comb, Assign}
use Rattle.vl_check.specs.vl_design.specs.Placed as p
use Rattle.vl_check.specs.vl_design.specs.Queue.{is_comb}
use Rattle.vl_check.specs.vl_design.specs.Stops.{construct_if}
use Rattle.vl_check.specs.vl_sites.specs.Sites as s
use Rattle.vl_check.specs.Bodies.{Setting, role_of, of_process, kind_is}
use Rattle.vl_check.specs.Rules.{is_clock, is_loop, names, sets, sets_word, is_delay, is_task, is_pure, is_foreign, writes_memory, is_untimely, site_faults, sites_faults}
use Rattle.vl_check.specs.Headers.{loop_faults}
use Rattle.vl_check.specs.Triggers.{trigger_faults}
use Rattle.vl_check.specs.Writers.{is_store, assigns, writes, excludes, is_second, is_taken, is_rival}
use Rattle.vl_check.specs.Standing.{body_faults, process_faults, processes_faults, functions_faults, standing_faults}
use Rattle.vl_accept.proofs.Clean.{left-none, right-none, not-stopped, or-both}
use Rattle.vl_accept.proofs.Pure.{Free, is_impure}
use Rattle.vl_latch.specs.vl_base.proofs.Booleans.{never_both as never}
use Rattle.vl_check.proofs.Shared.{assigns_wide}
use Rattle.vl_latch.specs.vl_base.proofs.Lists.{any_wider as any_wide}

faults_from : (d : p.Design) (acc before : List p.Process) (a : p.Process) (after : List p.Process) → processes_faults d acc (before ++ (a ∷ after)) ≡ [] → process_faults d (acc ++ before) a ≡ []
faults_from d acc [] a after h = subst (λ (bs : List p.Process). process_faults d bs a ≡ []) (sym (append-nil acc)) (left-none (process_faults d acc a) _ h)
faults_from d acc (x ∷ xs) a after h =
    subst (λ (bs : List p.Process). process_faults d bs a ≡ []) (append_assoc acc (x ∷ []) xs) (faults_from d (acc ++ (x ∷ [])) xs a after (right-none (process_faults d acc x) _ h))

-- each process of a design without faults has none
pub faults_at : (d : p.Design) → standing_faults d ≡ [] → (before : List p.Process) (a : p.Process) (after : List p.Process) → d.processes ≡ before ++ (a ∷ after) → process_faults d before a ≡ []
faults_at d h before a after e =
    let m : processes_faults d [] d.processes ≡ [] = left-none (processes_faults d [] d.processes) (functions_faults d d.funcs) h in
    faults_from d [] before a after (subst (λ (ps : List p.Process). processes_faults d [] ps ≡ []) e m)

-- ---- sites

pub any_at : {X : Type 0} (f : X → Bool) (before : List X) (x : X) (after : List X) → f x ≡ true → list_any f (before ++ (x ∷ after)) ≡ true
any_at f [] x after h = rw h refl
any_at f (y ∷ ys) x after h = at (f y) (any_at f ys x after h)
  where
    at : (b : Bool) → list_any f (ys ++ (x ∷ after)) ≡ true → (b || list_any f (ys ++ (x ∷ after))) ≡ true
    at true k = refl
    at false k = k

-- some site assigns the signal, beside headers of loops over it
abbrev pub Hits : ℕ → List s.Site → Type 0
Hits k xs = list_any (λ x. sets (λ j. j == k) x.what) xs ≡ true

sets_wide : (P : ℕ → Bool) (k : ℕ) → P k ≡ true → (w : s.What) → sets (λ j. j == k) w ≡ true → sets P w ≡ true
sets_wide P k h (s.Sets j word later) g = ap P (eqb-true j k g) ∙ h
sets_wide P k h (s.Reads j) g = g
sets_wide P k h (s.Heads j) g = g
sets_wide P k h (s.Calls f) g = g
sets_wide P k h s.Delays g = g
sets_wide P k h (s.Tasks name given) g = g

pub sets_hit : (P : ℕ → Bool) (k : ℕ) → P k ≡ true → (xs : List s.Site) → Hits k xs → list_any (λ x. sets P x.what) xs ≡ true
sets_hit P k h xs g = any_wide (λ x. sets (λ j. j == k) x.what) (λ x. sets P x.what) (λ x f. sets_wide P k h x.what f) xs g

names_wide : (P : ℕ → Bool) (w : s.What) → sets P w ≡ true → names P w ≡ true
names_wide P (s.Sets j word later) g = g
names_wide P (s.Reads j) g = let z : ⊥ = cc in absurd z
names_wide P (s.Heads j) g = let z : ⊥ = cc in absurd z
names_wide P (s.Calls f) g = let z : ⊥ = cc in absurd z
names_wide P s.Delays g = let z : ⊥ = cc in absurd z
names_wide P (s.Tasks name given) g = let z : ⊥ = cc in absurd z

writes_hit : (k : ℕ) (a : p.Process) → Hits k (s.sites a.body) → writes k a ≡ true
writes_hit k a g = any_wide (λ x. sets (λ j. j == k) x.what) (λ x. assigns k x.what) (λ x f. assigns_wide k x.what f) (s.sites a.body) g

-- ---- bodies

pub free_of : (b : Setting) (Q : s.What → Bool) → ((x : s.Site) → site_faults b x ≡ [] → Q x.what ≡ false) → (xs : List s.Site) → flat_map (site_faults b) xs ≡ [] → Free Q xs
free_of b Q h [] e = refl
free_of b Q h (x ∷ xs) e = or-both (Q x.what) (list_any (λ y. Q y.what) xs) (h x (left-none (site_faults b x) _ e)) (free_of b Q h xs (right-none (site_faults b x) _ e))

module _ (b : Setting) (x : s.Site) (h : site_faults b x ≡ []) where
  from17 : construct_if (is_pure b.role && is_delay x.what) x.at 17 ++ (construct_if (is_pure b.role && is_task x.what) x.at 18 ++ (construct_if (is_foreign b.role b.shared x.what) x.at 20
      ++ (construct_if (sets (kind_is is_loop (b.shared ++ b.own)) x.what) x.at 21 ++ (construct_if (writes_memory b.role x.what) x.at 22 ++ construct_if (is_untimely b.role b.shared x.what) x.at 23)))) ≡ []
  from17 = right-none (construct_if (names (kind_is is_clock b.shared) x.what) x.at 15) _ h

  site_clock : names (kind_is is_clock b.shared) x.what ≡ false
  site_clock = not-stopped (names (kind_is is_clock b.shared) x.what) x.at 15 (left-none _ _ h)

  site_loop : sets (kind_is is_loop (b.shared ++ b.own)) x.what ≡ false
  site_loop = not-stopped (sets (kind_is is_loop (b.shared ++ b.own)) x.what) x.at 21
      (left-none _ _ (right-none (construct_if (is_foreign b.role b.shared x.what) x.at 20) _
      (right-none (construct_if (is_pure b.role && is_task x.what) x.at 18) _
      (right-none (construct_if (is_pure b.role && is_delay x.what) x.at 17) _ from17))))

  site_impure : b.role ≡ role_of Comb → is_impure x.what ≡ false
  site_impure e =
      let d = not-stopped (is_pure b.role && is_delay x.what) x.at 17 (left-none _ _ from17) in
      let r = right-none (construct_if (is_pure b.role && is_delay x.what) x.at 17) _ from17 in
      let t = not-stopped (is_pure b.role && is_task x.what) x.at 18 (left-none _ _ r) in
      let q = right-none (construct_if (sets (kind_is is_loop (b.shared ++ b.own)) x.what) x.at 21) _ (right-none (construct_if (is_foreign b.role b.shared x.what) x.at 20) _ (right-none (construct_if (is_pure b.role && is_task x.what) x.at 18) _ r)) in
      let m = not-stopped (writes_memory b.role x.what) x.at 22 (left-none _ _ q) in
      or-both (is_delay x.what) (is_task x.what || sets_word (λ later. true) x.what) (subst (λ z. (is_pure z && is_delay x.what) ≡ false) e d)
      (or-both (is_task x.what) (sets_word (λ later. true) x.what) (subst (λ z. (is_pure z && is_task x.what) ≡ false) e t) (subst (λ z. writes_memory z x.what ≡ false) e m))

-- what isn't pure stands in no combinational body without faults
pub body_impure : (b : Setting) (a : p.Stm) → b.role ≡ role_of Comb → body_faults b a ≡ [] → Free is_impure (s.sites a)
body_impure b a e h = free_of b is_impure (λ x f. site_impure b x f e) (s.sites a) (left-none (sites_faults b a) (loop_faults b [] a) h)

role_comb : (k : ProcKind) → is_comb k ≡ true → role_of k ≡ role_of Comb
role_comb Comb h = refl
role_comb Assign h = refl
role_comb Init h = let z : ⊥ = cc in absurd z
role_comb Rise h = let z : ⊥ = cc in absurd z
role_comb Fall h = let z : ⊥ = cc in absurd z

-- ---- processes

module _ (d : p.Design) (before : List p.Process) (a : p.Process) (h : process_faults d before a ≡ []) where
  bodies : body_faults (of_process d a) a.body ≡ []
  bodies = left-none (body_faults (of_process d a) a.body) _ h

  sites_none : flat_map (site_faults (of_process d a)) (s.sites a.body) ≡ []
  sites_none = left-none (sites_faults (of_process d a) a.body) (loop_faults (of_process d a) [] a.body) bodies

  pub impure_free : is_comb a.kind ≡ true → Free is_impure (s.sites a.body)
  impure_free c = body_impure (of_process d a) a.body (role_comb a.kind c) bodies

  clock_free : Free (names (kind_is is_clock d.signals)) (s.sites a.body)
  clock_free = free_of (of_process d a) (names (kind_is is_clock d.signals)) (λ x e. site_clock (of_process d a) x e) (s.sites a.body) sites_none

  loop_free : Free (sets (kind_is is_loop (d.signals ++ []))) (s.sites a.body)
  loop_free = free_of (of_process d a) (sets (kind_is is_loop (d.signals ++ []))) (λ x e. site_loop (of_process d a) x e) (s.sites a.body) sites_none

  pub no_clock : (k : ℕ) → kind_is is_clock d.signals k ≡ true → Hits k (s.sites a.body) → ⊥
  no_clock k e g = never _ (any_wide (λ x. sets (kind_is is_clock d.signals) x.what) (λ x. names (kind_is is_clock d.signals) x.what) (λ x f. names_wide (kind_is is_clock d.signals) x.what f) (s.sites a.body) (sets_hit (kind_is is_clock d.signals) k e (s.sites a.body) g)) clock_free

  pub no_loop : (k : ℕ) → kind_is is_loop d.signals k ≡ true → Hits k (s.sites a.body) → ⊥
  no_loop k e g = never _ (sets_hit (kind_is is_loop (d.signals ++ [])) k (ap (λ ss. kind_is is_loop ss k) (append-nil d.signals) ∙ e) (s.sites a.body) g) loop_free

  rival_none : is_rival d.signals before a ≡ false
  rival_none = not-stopped (is_rival d.signals before a) a.place 14 (right-none (trigger_faults d.signals a) _ (right-none (body_faults (of_process d a) a.body) _ h))

  taken_wide : (k : ℕ) → kind_is is_store d.signals k ≡ true → is_second before a k ≡ true → (w : s.What) → sets (λ j. j == k) w ≡ true → is_taken d.signals before a w ≡ true
  taken_wide k e g (s.Sets j word later) f = let z : j ≡ k = eqb-true j k f in rw (z, e, g) refl
  taken_wide k e g (s.Reads j) f = let z : ⊥ = cc in absurd z
  taken_wide k e g (s.Heads j) f = let z : ⊥ = cc in absurd z
  taken_wide k e g (s.Calls i) f = let z : ⊥ = cc in absurd z
  taken_wide k e g s.Delays f = let z : ⊥ = cc in absurd z
  taken_wide k e g (s.Tasks name given) f = let z : ⊥ = cc in absurd z

  -- a variable that one before it writes, too
  pub no_rival : (k : ℕ) (some : List p.Process) (b : p.Process) (others : List p.Process) → before ≡ some ++ (b ∷ others) → excludes b.kind a.kind ≡ true → kind_is is_store d.signals k ≡ true →
      Hits k (s.sites b.body) → Hits k (s.sites a.body) → ⊥
  no_rival k some b others e x store f g =
      let w : writes k b ≡ true = writes_hit k b f in
      let both : (excludes b.kind a.kind && writes k b) ≡ true = rw (x, w) refl in
      let second : is_second before a k ≡ true = subst (λ (bs : List p.Process). is_second bs a k ≡ true) (sym e) (any_at (λ y. excludes y.kind a.kind && writes k y) some b others both) in
      never _ (any_wide (λ y. sets (λ j. j == k) y.what) (λ y. is_taken d.signals before a y.what) (λ y i. taken_wide k store second y.what i) (s.sites a.body) g) rival_none

pub one_writer : (d : p.Design) (before : List p.Process) (a : p.Process) (between : List p.Process) (b : p.Process) (after : List p.Process) (k : ℕ) → standing_faults d ≡ [] →
    d.processes ≡ (before ++ (a ∷ between)) ++ (b ∷ after) → excludes a.kind b.kind ≡ true → kind_is is_store d.signals k ≡ true → Hits k (s.sites a.body) →
    list_any (λ x. sets (λ j. j == k) x.what) (s.sites b.body) ≡ false
one_writer d before a between b after k none e x store f = by (list_any (λ x. sets (λ j. j == k) x.what) (s.sites b.body)) refl
  where
    by : (t : Bool) → list_any (λ x. sets (λ j. j == k) x.what) (s.sites b.body) ≡ t → t ≡ false
    by true g = absurd (no_rival d (before ++ (a ∷ between)) b (faults_at d none (before ++ (a ∷ between)) b after e) k before a between refl x store f g)
    by false g = refl
