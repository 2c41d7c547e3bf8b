-- Taking the value and giving it back keep the rule.
use Rattle.std.proofs.Common.{◌≡◌, ◌≢◌, ℕ, ◌+◌, ◌<◌, ◌≤◌, eqb, true, false, List, [], ◌∷◌, ◌++◌, length, get_or, drop, set, sym, refl, ap, ◌∙◌, subst, arith, length-set, length-drop, get_or-set_same, get_or-set_other, add-one, Option, Some, None, le_refl}
use Rattle.std.specs.Prelude.{All}
use mathlib.Core.Option.{none, some}
use Rattle.std.proofs.lemmas.Bool.{true≢false, false≢true}
use Rattle.std.proofs.lemmas.List.Elements.{All-nil, All-weaker}
use Rattle.std.proofs.Math.Seq.{drop-append_seam}
use lib.ListN.{get_elem?}
use prog.Atomic.{either}
use Rattle.atomic_table.specs.Table.{State, Me, step, keeps, takes, gives, stepped, opening, Allows, Act, Valid, carried_after}
use Rattle.fab_lock.specs.declared.entry.Entry.{Entry}
use Rattle.fab_lock.specs.declared.view.View.{View}
use Rattle.fab_lock.specs.Histories.{StartsWith, notes_of, high}
use Rattle.fab_lock.specs.Facts.{Finds}
use Rattle.fab_lock.specs.Rule.{no_seat, the_seat, IsJoined, IsKnown, IsTrueView, KeepsRule}
use Rattle.fab_lock.specs.Steps.{Grabs, Releases}
use Rattle.fab_lock.specs.Views.{first_view, after_grab, after_give}
use Rattle.fab_lock.proofs.Growth.{starts_same, starts_on, notes_stay, notes_grow}
use Rattle.fab_lock.proofs.Lists.{next_word, split_words, past_first, within, only_one, all_set}
use Rattle.fab_lock.proofs.Others.{place_of, is_home, not_spent, IsTrueOrSpent, still_true, stays, finds}
use Rattle.atomic_table.proofs.Lists.{set_here, exchanged}

module _ {T L N : Type 0} (label : T → L) (history : T → List N) (entry : N → Entry) (here : L) (count : ℕ) where
  abbrev V : Type 0
  V = View L N

  abbrev M : Type 0
  M = Me (Option T) V

  abbrev Holds : State (Option T) V → Type 0
  Holds = KeepsRule label history entry here count

  -- a new table
  pub opens : (words : List ℕ) (value : T) → length words ≡ count + 1 → ((i : ℕ) → get_or words i 0 ≡ 0) → label value ≡ here → history value ≡ [] → Holds (opening words (Some value ∷ []) (first_view here count))
  opens words value wide none_set l h = record {
    now = [];
    holder = no_seat;
    owner = λ n. 1;
    wide = wide;
    placed = (none_set 0, (λ i _. none_set (i + 1)), (value, refl, l, h));
    held = tt;
    each = λ j v e _. let t = only_one (first_view here count) v j e in subst (λ (z : ℕ × V). IsTrueView entry here count (λ n. 1) words [] no_seat z.0 z.1) (λ i. (sym t.0 i, t.1 i)) record {
      label = refl;
      counts = refl;
      begins = starts_same [];
      told = starts_same [];
      holds = λ h. absurd (false≢true h);
      ranged = λ n _ _. refl;
      own = refl;
      unused = λ n _ _. refl;
      joined = All-nil _;
      known = All-nil _;
    };
  }

  -- a try to take it
  pub grabs : (slots id : ℕ) (me : M) → me.0.label ≡ Some here
      → Allows Holds slots id me 0 (λ n. either (eqb n 0) 1 n) (Grabs label history entry (step slots 0 0 1 none) me)
  grabs slots id me mine s r _ at _ = let y : ℕ = get_or s.words 0 0 in let wide = r.wide in
      exchanged y 0 1 (λ n. (w : V) × (a : Act (Option T)) × Valid s.homes me.1 a × Holds (stepped s 0 n id me.1 w a) × Grabs label history entry (step slots 0 0 1 none) me y (w, carried_after me.1 a))
      (λ hit. let f = finds label history entry here count s r.now r.holder r.placed hit in let x : T = f.2.0 in let ws : List ℕ = drop 1 s.words in let w : V = after_grab me.0 (history x) ws in
      let old = r.each id me.0 at (not_spent here me.0 mine) in (
        w,
        takes 0 (Some x),
        f.2.1,
        record {
          now = r.now;
          holder = the_seat id;
          owner = r.owner;
          wide = length-set s.words 0 1 ∙ wide;
          placed = (get_or-set_same s.words 0 1 0 (omega arith), λ i l. let e = past_first s.words 1 i in let d = f.1 i l in omega arith);
          held = (w, set_here s.views id w (within s.views id me.0 at), refl);
          each = all_set (IsTrueOrSpent entry here count r.owner (set s.words 0 1) r.now (the_seat id)) s.views id w
              (λ _. record {
                label = mine;
                counts = old.counts;
                begins = old.begins;
                told = old.told;
                holds = λ _. (refl, f.2.3, split_words s.words count wide 1);
                ranged = old.ranged;
                own = old.own;
                unused = old.unused;
                joined = old.joined;
                known = All-weaker (IsKnown count s.words) (IsKnown count (set s.words 0 1)) (λ p t. (t.0, let e = past_first s.words 1 p.0 in let d = t.1 in omega arith)) me.0.known old.known;
              })
              (λ j v other there known. let o = r.each j v there known in
              still_true entry here count r.owner s.words (set s.words 0 1) r.now r.now r.holder (the_seat id) id j v other (λ h. absurd (true≢false (ap is_home (sym f.0 ∙ (o.holds h).0))))
              (λ i _. let e = past_first s.words 1 i in omega arith) (starts_same r.now) (λ n _. refl) o);
        },
        (
          (λ _. (
            x,
            ws,
            mine ∙ ap Some (sym f.2.2),
            subst (λ (z : List N). Finds entry z ws me.0) (sym f.2.3) record {
              begins = old.begins;
              own = old.own;
              unused = old.unused;
              joined = All-weaker (IsJoined entry r.owner r.now) (λ p. notes_of entry p.0 r.now ≡ p.1) (λ p t. t.1) me.0.joined old.joined;
              known = All-weaker (IsKnown count s.words) (λ p. p.1 ≤ high entry p.0 r.now) (λ p t. let e = f.1 p.0 t.0 in let d = t.1 in omega arith) me.0.known old.known;
              reach = (let c = old.counts in omega (arith, length-drop 1 s.words), λ i l. next_word s.words i ∙ f.1 i (let c = old.counts in omega arith));
            },
            refl,
          )),
          λ miss. absurd (miss hit),
        ),
      ))
      (λ miss. (me.0, keeps, tt, stays label history entry here count s r 0 id me.0 me.1 at, ((λ hit. absurd (miss hit)), λ _. refl)))

  releases_at : (slots id : ℕ) (v : V) (x : T) → v.label ≡ Some here → v.holds ≡ true → label x ≡ here → (added : List N) → history x ≡ v.taken ++ added → All (λ n. (entry n).seat ≡ v.low) added
      → ((i : ℕ) → i < v.count → get_or v.words i 0 ≡ high entry i (history x)) → 0 < slots
      → Allows Holds slots id (v, (0, Some x) ∷ []) 0 (λ _. 0) (λ _ m. Releases history (v, (0, Some x) ∷ []) m)
  releases_at slots id v x mine holds lab added grows bear reach room s r deep at _ = let wide = r.wide in let w : V = after_give v (history x) in
      let old = r.each id v at (not_spent here v mine) in let held = old.holds holds in let owns = old.ranged v.low (le_refl v.low) (omega arith) in
      let more : history x ≡ r.now ++ added = grows ∙ ap (λ (l : List N). l ++ added) held.1 in let on_log : StartsWith (history x) r.now = (added, more) in
      let same : (n : ℕ) → r.owner n ≢ id + 1 → notes_of entry n (history x) ≡ notes_of entry n r.now = λ n ne. ap (notes_of entry n) more ∙ notes_stay entry n v.low r.now added (λ e. ne (ap r.owner e ∙ owns)) bear in
      let words_are : (i : ℕ) → get_or (set s.words 0 0) (i + 1) 0 ≡ get_or v.words i 0 = λ i. past_first s.words 0 i ∙ ap (λ (l : List ℕ). get_or l (i + 1) 0) held.2 ∙ rw (add-one i) refl in (
        w,
        gives,
        tt,
        record {
          now = history x;
          holder = no_seat;
          owner = r.owner;
          wide = length-set s.words 0 0 ∙ wide;
          placed = (get_or-set_same s.words 0 0 0 (omega arith), (λ i l. words_are i ∙ reach i (let c = old.counts in omega arith)), (x, set_here s.homes 0 (some (Some x)) (omega arith), lab, refl));
          held = tt;
          each = all_set (IsTrueOrSpent entry here count r.owner (set s.words 0 0) (history x) no_seat) s.views id w
              (λ _. record {
                label = mine;
                counts = old.counts;
                begins = starts_same (history x);
                told = starts_on (history x) r.now v.told on_log old.told;
                holds = λ h. absurd (false≢true h);
                ranged = old.ranged;
                own = ap (notes_of entry v.low) more ∙ notes_grow entry v.low r.now added bear ∙ ap (λ (l : List N). l ++ added) old.own ∙ ap (λ (l : List N). v.own ++ l) (sym (drop-append_seam v.taken added) ∙ ap (drop (length v.taken)) (sym grows));
                unused = λ n a b. ap (notes_of entry n) more ∙ notes_stay entry n v.low r.now added (λ e. omega arith) bear ∙ old.unused n a b;
                joined = All-weaker (IsJoined entry r.owner r.now) (IsJoined entry r.owner (history x)) (λ p t. (t.0, same p.0 (λ e. let z = t.0 in absurd (omega arith)) ∙ t.1)) v.joined old.joined;
                known = All-weaker (IsKnown count s.words) (IsKnown count (set s.words 0 0)) (λ p t. (t.0, let e = past_first s.words 0 p.0 in let d = t.1 in omega arith)) v.known old.known;
              })
              (λ j u other there known. let o = r.each j u there known in
              still_true entry here count r.owner s.words (set s.words 0 0) r.now (history x) r.holder no_seat id j u other (λ h. other (ap place_of (sym ((o.holds h).0) ∙ held.0)))
              (λ i _. let e = past_first s.words 0 i in omega arith) on_log same o);
        },
        refl,
      )

  -- the value comes home
  pub releases : (slots id : ℕ) (me : M) (x : T) → me.1 ≡ (0, Some x) ∷ [] → me.0.label ≡ Some here → me.0.holds ≡ true → label x ≡ here → (added : List N) → history x ≡ me.0.taken ++ added
      → All (λ n. (entry n).seat ≡ me.0.low) added → ((i : ℕ) → i < me.0.count → get_or me.0.words i 0 ≡ high entry i (history x)) → 0 < slots
      → Allows Holds slots id me 0 (λ _. 0) (λ _ m. Releases history me m)
  releases slots id me x has mine holds lab added grows bear reach room =
      subst (λ (c : List (ℕ × Option T)). Allows Holds slots id (me.0, c) 0 (λ _. 0) (λ _ m. Releases history (me.0, c) m)) (sym has) (releases_at slots id me.0 x mine holds lab added grows bear reach room)
