-- Cutting a seat's range in two, and joining two seats, keep the rule.
use Rattle.std.proofs.Common.{◌≡◌, ◌≢◌, ℕ, ◌+◌, ◌-◌, ◌<◌, ◌≤◌, eqb, true, false, List, [], ◌∷◌, ◌++◌, length, get_or, set, sym, refl, ap, ◌∙◌, subst, ⊎_elim, arith, Option, Some, le_refl, cond, eq-eqb, ne_eqb}
use Rattle.std.specs.Prelude.{All}
use mathlib.Core.Option.{some}
use Rattle.std.proofs.lemmas.Bool.{false≢true}
use Rattle.std.proofs.lemmas.List.{set-get_or}
use Rattle.std.proofs.lemmas.List.Elements.{All-nil, All-cons, All-append, All-weaker}
use native.Mathlib.Decide.{dec_le}
use lib.ListN.{get_elem?}
use Rattle.atomic_table.specs.Table.{State, Me, keeps, Allows, Splits, Joins}
use Rattle.fab_lock.specs.declared.entry.Entry.{Entry}
use Rattle.fab_lock.specs.declared.view.View.{View}
use Rattle.fab_lock.specs.Histories.{notes_of}
use Rattle.fab_lock.specs.Rule.{IsJoined, IsKnown, KeepsRule}
use Rattle.fab_lock.specs.Steps.{Settles}
use Rattle.fab_lock.specs.Views.{lower_half, upper_half, told_view, settled_view, spent_view}
use Rattle.fab_lock.proofs.Growth.{longer_starts}
use Rattle.fab_lock.proofs.Lists.{still_held, held_more, choose, chosen, not_chosen, all_set, all_more}
use Rattle.fab_lock.proofs.Others.{not_spent, IsTrueOrSpent, still_true_owned}
use Rattle.atomic_table.proofs.Lists.{at_set}

module _ {T L N : Type 0} (label : T → L) (history : T → List N) (entry : N → Entry) (here : L) (count : ℕ) where
  abbrev V : Type 0
  V = View L N

  abbrev M : Type 0
  M = Me (Option T) V

  abbrev Holds : State (Option T) V → Type 0
  Holds = KeepsRule label history entry here count

  -- after a join, the longer of both histories
  pub settles : (slots id : ℕ) (me : M) → me.0.label ≡ Some here → Allows Holds slots id me 0 (λ n. n) (λ y m. Settles me m)
  settles slots id me mine s r _ at _ = let v : V = me.0 in let w : V = settled_view v in
      let old = r.each id v at (not_spent here v mine) in let long = longer_starts r.now v.seen v.told old.begins old.told in (
        w,
        keeps,
        tt,
        subst (λ (l : List ℕ). Holds record { words = l; homes = s.homes; views = set s.views id w }) (sym (set-get_or s.words 0 0)) record {
          now = r.now;
          holder = r.holder;
          owner = r.owner;
          wide = r.wide;
          placed = r.placed;
          held = still_held s.views r.holder id v w at refl r.held;
          each = all_set (IsTrueOrSpent entry here count r.owner s.words r.now r.holder) s.views id w
              (λ _. record {
                label = mine;
                counts = old.counts;
                begins = long.0;
                told = (r.now, refl);
                holds = old.holds;
                ranged = old.ranged;
                own = old.own;
                unused = old.unused;
                joined = old.joined;
                known = old.known;
              })
              (λ j u other there known. r.each j u there known);
        },
        (refl, long.1, long.2),
      )

  -- the range is cut in two, and there is a seat more
  pub splits : (id : ℕ) (v : V) → v.label ≡ Some here → 0 < v.others → Splits Holds id v (lower_half v) (upper_half v)
  splits id v mine room s r at = let old = r.each id v at (not_spent here v mine) in let left : V = lower_half v in let right : V = upper_half v in
      let views : List V = set s.views id left in let top : ℕ = v.low + v.others in let who : ℕ = length views + 1 in
      let owner' : ℕ → ℕ = λ n. choose (dec_le right.low n) (dec_le n top) who (r.owner n) in
      let agree : (n : ℕ) → r.owner n ≢ id + 1 → owner' n ≡ r.owner n = λ n ne. not_chosen (dec_le right.low n) (dec_le n top) who (r.owner n) (λ a b. ne (old.ranged n (omega arith) b)) in record {
        now = r.now;
        holder = r.holder;
        owner = owner';
        wide = r.wide;
        placed = r.placed;
        held = held_more views (right ∷ []) r.holder (still_held s.views r.holder id v left at refl r.held);
        each = all_more (IsTrueOrSpent entry here count owner' s.words r.now r.holder) views right
            (all_set (IsTrueOrSpent entry here count owner' s.words r.now r.holder) s.views id left
            (λ _. record {
              label = mine;
              counts = old.counts;
              begins = old.begins;
              told = old.told;
              holds = old.holds;
              ranged = λ n a b. not_chosen (dec_le right.low n) (dec_le n top) who (r.owner n) (λ c d. omega arith) ∙ old.ranged n a (omega arith);
              own = old.own;
              unused = λ n a b. old.unused n a (omega arith);
              joined = All-weaker (IsJoined entry r.owner r.now) (IsJoined entry owner' r.now) (λ p t. (agree p.0 (λ e. let z = t.0 in absurd (omega arith)) ∙ t.0, t.1)) v.joined old.joined;
              known = old.known;
            })
            (λ j u other there known. still_true_owned entry here count r.owner owner' s.words r.now r.holder id j u other agree (r.each j u there known)))
            (λ _. record {
              label = mine;
              counts = old.counts;
              begins = old.begins;
              told = (r.now, refl);
              holds = λ h. absurd (false≢true h);
              ranged = λ n a b. chosen (dec_le right.low n) (dec_le n top) who (r.owner n) a (omega arith);
              own = old.unused right.low (omega arith) (omega arith);
              unused = λ n a b. old.unused n (omega arith) (omega arith);
              joined = All-nil _;
              known = old.known;
            });
      }

  -- a seat takes in what another knew, which is spent; nobody has its numbers any more
  pub joins : (id : ℕ) (v : V) (other : ℕ) (w : V) → v.label ≡ Some here → w.label ≡ Some here → w.holds ≡ false → Joins Holds id v other w (told_view v w) spent_view
  joins id v other w mine theirs idle s r at apart there' = let both : V = told_view v w in let old = r.each id v at (not_spent here v mine) in
      let there : get_elem? s.views other ≡ some w = ⊎_elim (λ (t : (other ≡ id) × (both ≡ w)). absurd (apart t.0)) (λ (t : (other ≢ id) × (get_elem? s.views other ≡ some w)). t.1) (at_set s.views id other both w there') in
      let gone = r.each other w there (not_spent here w theirs) in
      let owner' : ℕ → ℕ = λ n. cond (eqb (r.owner n) (other + 1)) 0 (r.owner n) in
      let agree : (n : ℕ) → r.owner n ≢ other + 1 → owner' n ≡ r.owner n = λ n ne. ap (λ b. cond b 0 (r.owner n)) (ne_eqb (r.owner n) (other + 1) ne) in
      let freed : (n : ℕ) → r.owner n ≡ other + 1 → owner' n ≡ 0 = λ n e. ap (λ b. cond b 0 (r.owner n)) (eq-eqb (r.owner n) (other + 1) e) in
      let still : (p : ℕ × List N) → IsJoined entry r.owner r.now p → IsJoined entry owner' r.now p = λ p t. (agree p.0 (λ e. let z = t.0 in absurd (omega arith)) ∙ t.0, t.1) in record {
        now = r.now;
        holder = r.holder;
        owner = owner';
        wide = r.wide;
        placed = r.placed;
        held = still_held (set s.views id both) r.holder other w spent_view there' (sym idle) (still_held s.views r.holder id v both at refl r.held);
        each = all_set (IsTrueOrSpent entry here count owner' s.words r.now r.holder) (set s.views id both) other spent_view
            (λ known. absurd (known refl))
            (λ j u away there2. all_set (λ j u. j ≢ other → IsTrueOrSpent entry here count owner' s.words r.now r.holder j u) s.views id both
            (λ _ _. record {
              label = mine;
              counts = old.counts;
              begins = old.begins;
              told = gone.begins;
              holds = old.holds;
              ranged = λ n a b. agree n (λ e. apart (let is = old.ranged n a b in omega arith)) ∙ old.ranged n a b;
              own = old.own;
              unused = old.unused;
              joined = All-append (IsJoined entry owner' r.now) v.joined ((w.low, w.own) ∷ w.joined) (All-weaker (IsJoined entry r.owner r.now) (IsJoined entry owner' r.now) still v.joined old.joined)
                  (All-cons (IsJoined entry owner' r.now) (w.low, w.own) w.joined (freed w.low (gone.ranged w.low (le_refl w.low) (omega arith)), gone.own)
                  (All-weaker (IsJoined entry r.owner r.now) (IsJoined entry owner' r.now) still w.joined gone.joined));
              known = All-append (IsKnown count s.words) v.known w.known old.known gone.known;
            })
            (λ j u _ at2 away2 known. still_true_owned entry here count r.owner owner' s.words r.now r.holder other j u away2 agree (r.each j u at2 known))
            j u there2 away);
      }
