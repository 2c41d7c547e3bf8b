-- Setting and reading progress words keep the rule.
use Rattle.std.proofs.Common.{◌≡◌, ◌≢◌, ℕ, ◌+◌, ◌-◌, ◌<◌, ◌≤◌, true, List, [], ◌∷◌, length, get_or, set, sym, refl, ap, ◌∙◌, subst, arith, length-set, get_or-set_other, add-one, Option, Some, le_refl, le_trans}
use Rattle.std.specs.Prelude.{All}
use Rattle.std.proofs.lemmas.List.{set-get_or}
use Rattle.std.proofs.lemmas.List.Elements.{All-cons, All-weaker}
use Rattle.atomic_table.specs.Table.{State, Me, keeps, Allows}
use Rattle.fab_lock.specs.declared.entry.Entry.{Entry}
use Rattle.fab_lock.specs.declared.view.View.{View}
use Rattle.fab_lock.specs.Rule.{the_seat, IsKnown, KeepsRule}
use Rattle.fab_lock.specs.Steps.{Posts, Glances, Reads}
use Rattle.fab_lock.specs.Views.{after_post, after_glance}
use Rattle.fab_lock.proofs.Growth.{starts_same, high_starts}
use Rattle.fab_lock.proofs.Lists.{set_next, rises, within, still_held, all_set}
use Rattle.fab_lock.proofs.Others.{place_of, not_spent, IsTrueOrSpent, still_true, stays, reaches}
use Rattle.atomic_table.proofs.Lists.{set_here}

module _ {T L N : Type 0} (label : T → L) (history : T → List N) (entry : N → Entry) (here : L) (count : ℕ) where
  abbrev V : Type 0
  V = View L N

  abbrev M : Type 0
  M = Me (Option T) V

  abbrev Holds : State (Option T) V → Type 0
  Holds = KeepsRule label history entry here count

  -- the seat that holds the value sets a word
  pub posts : (slots id : ℕ) (me : M) (k x : ℕ) → me.0.label ≡ Some here → me.0.holds ≡ true → k < me.0.count → get_or me.0.words k 0 ≤ x
      → Allows Holds slots id me (k + 1) (λ _. x) (λ _ m. Posts (k + 1) x me m)
  posts slots id me k x mine holds in' up s r _ at _ = let wide = r.wide in let v : V = me.0 in let w : V = after_post v (k + 1 - 1) x in
      let old = r.each id v at (not_spent here v mine) in let held = old.holds holds in let c = old.counts in
      let was : get_or s.words (k + 1) 0 ≡ get_or v.words k 0 = ap (λ (l : List ℕ). get_or l (k + 1) 0) held.2 ∙ rw (add-one k) refl in
      let rise : (i : ℕ) → i < count → get_or s.words (i + 1) 0 ≤ get_or (set s.words (k + 1) x) (i + 1) 0 = λ i _. rises s.words (k + 1) x (i + 1) (omega arith) (omega arith) in (
        w,
        keeps,
        tt,
        record {
          now = r.now;
          holder = the_seat id;
          owner = r.owner;
          wide = length-set s.words (k + 1) x ∙ wide;
          placed = (get_or-set_other s.words (k + 1) 0 x 0 (λ e. omega arith) ∙ ap (λ (l : List ℕ). get_or l 0 0) held.2, λ i l. le_trans (reaches label history entry here count s r.now r.holder r.placed i l) (rise i l));
          held = (w, set_here s.views id w (within s.views id v at), holds);
          each = all_set (IsTrueOrSpent entry here count r.owner (set s.words (k + 1) x) r.now (the_seat id)) s.views id w
              (λ _. record {
                label = mine;
                counts = old.counts;
                begins = old.begins;
                told = old.told;
                holds = λ _. (refl, held.1, ap (λ (l : List ℕ). set l (k + 1) x) held.2 ∙ set_next 1 k x v.words);
                ranged = old.ranged;
                own = old.own;
                unused = old.unused;
                joined = old.joined;
                known = All-weaker (IsKnown count s.words) (IsKnown count (set s.words (k + 1) x)) (λ p t. (t.0, le_trans t.1 (rise p.0 t.0))) v.known old.known;
              })
              (λ j u other there known. let o = r.each j u there known in
              still_true entry here count r.owner s.words (set s.words (k + 1) x) r.now r.now r.holder (the_seat id) id j u other (λ h. other (ap place_of (sym ((o.holds h).0) ∙ held.0)))
              rise (starts_same r.now) (λ n _. refl) o);
        },
        refl,
      )

  -- any seat reads a word
  pub glances : (slots id : ℕ) (me : M) (k : ℕ) → me.0.label ≡ Some here → k < me.0.count
      → Allows Holds slots id me (k + 1) (λ n. n) (λ y m. Glances entry (k + 1) me y m)
  glances slots id me k mine in' s r _ at _ = let v : V = me.0 in let y : ℕ = get_or s.words (k + 1) 0 in let back : k + 1 - 1 ≡ k = omega arith in let w : V = after_glance v (k + 1 - 1) y in
      let old = r.each id v at (not_spent here v mine) in let c = old.counts in let inside : k < count = omega arith in (
        w,
        keeps,
        tt,
        subst (λ (l : List ℕ). Holds record { words = l; homes = s.homes; views = set s.views id w }) (sym (set-get_or s.words (k + 1) 0)) record {
          now = r.now;
          holder = r.holder;
          owner = r.owner;
          wide = r.wide;
          placed = r.placed;
          held = still_held s.views r.holder id v w at refl r.held;
          each = all_set (IsTrueOrSpent entry here count r.owner s.words r.now r.holder) s.views id w
              (λ _. record {
                label = mine;
                counts = old.counts;
                begins = old.begins;
                told = old.told;
                holds = old.holds;
                ranged = old.ranged;
                own = old.own;
                unused = old.unused;
                joined = old.joined;
                known = All-cons (IsKnown count s.words) (k + 1 - 1, y) v.known (rw back (inside, le_refl y)) old.known;
              })
              (λ j u other there known. r.each j u there known);
        },
        (
          refl,
          rw back (le_trans (high_starts entry k r.now v.seen old.begins) (reaches label history entry here count s r.now r.holder r.placed k inside)),
          All-weaker (IsKnown count s.words) (λ p. p.0 ≡ k + 1 - 1 → p.1 ≤ y) (λ p t e. let e' : p.0 ≡ k = e ∙ back in subst (λ (z : ℕ). p.1 ≤ get_or s.words (z + 1) 0) e' t.1) v.known old.known,
        ),
      )

  -- the seat that holds the value reads a word
  pub reads : (slots id : ℕ) (me : M) (k : ℕ) → me.0.label ≡ Some here → Allows Holds slots id me (k + 1) (λ n. n) (λ y m. Reads (k + 1) me y m)
  reads slots id me k mine s r _ at _ = let back : k + 1 - 1 ≡ k = omega arith in let old = r.each id me.0 at (not_spent here me.0 mine) in
      (me.0, keeps, tt, stays label history entry here count s r (k + 1) id me.0 me.1 at, (refl, λ h. ap (λ (l : List ℕ). get_or l (k + 1) 0) (old.holds h).2 ∙ rw (back, add-one k) refl))
