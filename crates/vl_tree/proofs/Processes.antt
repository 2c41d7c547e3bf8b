-- Triggers of processes: what is read follows the grammar, and what the grammar derives is read.
use Rattle.std.proofs.Common.{◌≡◌, ℕ, zero, suc, ◌<◌, inl, inr, length, List, [], ◌∷◌, Ok, Option, Some, None, refl, arith}
use Rattle.std.specs.Prelude.{codes}
use Rattle.vl_base.specs.declared.place.Place.{Place}
use Rattle.vl_tree.specs.declared.token.Token.{Token}
use Rattle.vl_tree.specs.declared.token.TokenKind.TheVariants as k
use Rattle.vl_tree.specs.MarksOfGrammar.{IsMark}
use Rattle.vl_tree.specs.Reading.{next_by, mark, keyword}
use Rattle.vl_tree.proofs.Follows.{next_by_here}
use Rattle.vl_tree.proofs.MarkLemmas.{mark_here, mark_some}
use Rattle.vl_tree.proofs.Complete.{none_here}
use Rattle.vl_tree.specs.declared.source_tree.Trigger.{Trigger}
use Rattle.vl_tree.specs.declared.source_tree.Trigger.TheVariants as g
use Rattle.vl_tree.specs.declared.source_tree.Event.{Event}
use Rattle.vl_tree.specs.declared.source_tree.Edge.TheVariants as e
use Rattle.vl_tree.specs.Bounds.{Bounds}
use Rattle.vl_tree.specs.Lists.{ReadsParenthesized, ReadsIdentifier}
use Rattle.vl_tree.specs.GrammarOfSource.{ReadsEvent, ReadsEvents, ReadsTrigger, IsBetweenEvents}
use Rattle.vl_tree.specs.declared.tree.Expression.{Expression}
use Rattle.vl_tree.specs.declared.source_tree.Lvalue.{Lvalue}
use Rattle.vl_tree.specs.Parsers.{Parser, identifier, many}
use Rattle.vl_tree.specs.Parsing.{event_of, event, either_place, between_events, events, inner_trigger, trigger}
use Rattle.vl_tree.proofs.Words.{keyword_here, keyword_some, no_keyword, no_mark}
use Rattle.vl_tree.proofs.FollowsOfSource.{Relation, Follows, Then, Either, Nothing, follows_weaker, follows_pure, follows_bind, follows_if}
use Rattle.vl_tree.proofs.FollowsLists.{follows_identifier, follows_parenthesized, follows_many}
use Rattle.vl_tree.proofs.Completing.{identifier_reads, mark_next, mark_apart, keyword_next, keyword_apart}
use Rattle.vl_tree.proofs.PartsOfSource.{named_identifier, named_no_word, named_no_mark, shorter_identifier, word_no_mark}

-- ---- events

-- { ("or" | ",") event }
pub data ReadsFurtherEvents : List Event → List Token → List Token → Type 0 where
  no_event : {ts : List Token} → ReadsFurtherEvents [] ts ts
  an_event : {a : Event} {others : List Event} {between : Token} {ts us rest : List Token} → IsBetweenEvents between → ReadsEvent a ts us → ReadsFurtherEvents others us rest → ReadsFurtherEvents (a ∷ others) (between ∷ ts) rest

events_from : {a : Event} {others : List Event} {ts us rest : List Token} → ReadsEvent a ts us → ReadsFurtherEvents others us rest → ReadsEvents (a ∷ others) ts rest
events_from d ReadsFurtherEvents.no_event = ReadsEvents.last_event d
events_from d (ReadsFurtherEvents.an_event h f q) = ReadsEvents.further_event d h (events_from f q)

events_parts : {es : List Event} {ts rest : List Token} → ReadsEvents es ts rest → (a : Event) × (others : List Event) × (us : List Token) × (es ≡ a ∷ others) × ReadsEvent a ts us × ReadsFurtherEvents others us rest
events_parts (ReadsEvents.last_event {a} {ts} {rest} d) = (a, [], rest, refl, d, ReadsFurtherEvents.no_event)
events_parts (ReadsEvents.further_event {a} {others} {between} {ts} {us} {rest} d h f) = let q = events_parts f in (a, others, between ∷ us, refl, d, rw q.3 (ReadsFurtherEvents.an_event h q.4 q.5))

pub shorter_event : {a : Event} {ts rest : List Token} → ReadsEvent a ts rest → length rest < length ts
shorter_event (ReadsEvent.either_way d) = shorter_identifier d
shorter_event (ReadsEvent.rising h d) = omega (arith, shorter_identifier d)
shorter_event (ReadsEvent.falling h d) = omega (arith, shorter_identifier d)

pub shorter_events : {es : List Event} {ts rest : List Token} → ReadsEvents es ts rest → length rest < length ts
shorter_events (ReadsEvents.last_event d) = shorter_event d
shorter_events (ReadsEvents.further_event d h f) = omega (arith, shorter_event d, shorter_events f)

pub shorter_trigger : {a : Trigger} {ts rest : List Token} → ReadsTrigger a ts rest → length rest < length ts
shorter_trigger (ReadsTrigger.star h) = omega arith
shorter_trigger (ReadsTrigger.star_inside h i j) = omega arith
shorter_trigger (ReadsTrigger.events (ReadsParenthesized.parenthesized h d i)) = omega (arith, shorter_events d)

-- an event begins with no mark
event_no_mark : (m : List ℕ) {a : Event} {ts rest : List Token} → ReadsEvent a ts rest → next_by (mark m) ts ≡ None
event_no_mark m (ReadsEvent.either_way d) = named_no_mark m (named_identifier d)
event_no_mark m (ReadsEvent.rising {n} {word} {ts} h d) = word_no_mark m (codes "posedge") word ts h
event_no_mark m (ReadsEvent.falling {n} {word} {ts} h d) = word_no_mark m (codes "negedge") word ts h

events_no_mark : (m : List ℕ) {es : List Event} {ts rest : List Token} → ReadsEvents es ts rest → next_by (mark m) ts ≡ None
events_no_mark m (ReadsEvents.last_event d) = event_no_mark m d
events_no_mark m (ReadsEvents.further_event d h f) = event_no_mark m d

module _ (whole : Parser Expression) (target : Parser Lvalue) (n : ℕ) where
  -- ---- what is read follows the grammar

  event_from : (b : Bounds) (a : Event) (ts rest : List Token) → Either (keyword (codes "posedge")) (λ _ p. Then (λ _. ReadsIdentifier) (λ i. Nothing (event_of whole target n p (Some e.Rising) i)))
      (Either (keyword (codes "negedge")) (λ _ p. Then (λ _. ReadsIdentifier) (λ i. Nothing (event_of whole target n p (Some e.Falling) i))) (Then (λ _. ReadsIdentifier) (λ i. Nothing (event_of whole target n i.place None i)))) b a ts rest → ReadsEvent a ts rest
  event_from b a ts rest (inl (v, us, p, x, h, (i, vs, d, (j, q)))) = let w = keyword_some (codes "posedge") v p h in rw (x, j, w.1) (ReadsEvent.rising w.0 (rw q at d))
  event_from b a ts rest (inr (inl (v, us, p, x, h, (i, vs, d, (j, q))))) = let w = keyword_some (codes "negedge") v p h in rw (x, j, w.1) (ReadsEvent.falling w.0 (rw q at d))
  event_from b a ts rest (inr (inr (i, vs, d, (j, q)))) = rw j (ReadsEvent.either_way (rw q at d))

  pub follows_event : Follows (λ _. ReadsEvent) (event whole target n)
  unfolding event
  follows_event = follows_weaker event_from
      (follows_if (keyword (codes "posedge")) _ _ _ _ (λ v p h. follows_bind (λ _. ReadsIdentifier) _ identifier _ follows_identifier (λ i. follows_pure (event_of whole target n p (Some e.Rising) i)))
      (follows_if (keyword (codes "negedge")) _ _ _ _ (λ v p h. follows_bind (λ _. ReadsIdentifier) _ identifier _ follows_identifier (λ i. follows_pure (event_of whole target n p (Some e.Falling) i)))
      (follows_bind (λ _. ReadsIdentifier) _ identifier _ follows_identifier (λ i. follows_pure (event_of whole target n i.place None i)))))

  between_by : (v : Token) (p : Place) (a b : Option Place) → keyword (codes "or") v ≡ a → mark (codes ",") v ≡ b → either_place whole target n a b ≡ Some p → IsBetweenEvents v
  between_by v p (Some x) b i j h = inl (keyword_some (codes "or") v x i).0
  between_by v p None (Some x) i j h = inr (mark_some (codes ",") v x j).0
  between_by v p None None i j h = let z : ⊥ = cc in absurd z

  between_some : (v : Token) (p : Place) → between_events whole target n v ≡ Some p → IsBetweenEvents v
  unfolding between_events
  between_some v p h = between_by v p (keyword (codes "or") v) (mark (codes ",") v) refl refl h

  pub follows_events : Follows (λ _. ReadsEvents) (events whole target n)
  unfolding events
  follows_events = follows_weaker (λ b es ts rest (a, us, d, (others, vs, f, (i, j))). rw i (events_from d (rw j at f)))
      (follows_bind (λ _. ReadsEvent) _ (event whole target n) _ follows_event (λ a. follows_bind (λ _. ReadsFurtherEvents) _ (many (between_events whole target n) (λ _. event whole target n) n) _
      (follows_many (between_events whole target n) (λ _ _ _. ReadsEvent) (λ _. ReadsFurtherEvents) (λ _. event whole target n) (λ v p h. follows_event) (λ b ts. ReadsFurtherEvents.no_event) (λ b v p a es ts us rest h d f. ReadsFurtherEvents.an_event (between_some v p h) d f) n)
      (λ others. follows_pure (a ∷ others))))

  abbrev Inner : Relation Trigger
  Inner = Either (mark (codes "*")) (λ _ _. Nothing g.Parenthesized) (Then (λ _. ReadsEvents) (λ es. Nothing (g.Events es)))

  follows_inner : Follows Inner (inner_trigger whole target n)
  unfolding inner_trigger
  follows_inner = follows_if (mark (codes "*")) _ _ _ _ (λ v p h. follows_pure g.Parenthesized) (follows_bind (λ _. ReadsEvents) _ (events whole target n) _ follows_events (λ es. follows_pure (g.Events es)))

  inner_trigger_from : (b : Bounds) (a : Trigger) (ts rest : List Token) → ReadsParenthesized (Inner b) a ts rest → ReadsTrigger a ts rest
  inner_trigger_from b a ts rest (ReadsParenthesized.parenthesized h (inl (v, us, p, x, i, (j, q))) o) = rw (x, j, q) (ReadsTrigger.star_inside h (mark_some (codes "*") v p i).0 o)
  inner_trigger_from b a ts rest (ReadsParenthesized.parenthesized h (inr (es, us, d, (j, q))) o) = rw j (ReadsTrigger.events (ReadsParenthesized.parenthesized h (rw q at d) o))

  pub follows_trigger : Follows (λ _. ReadsTrigger) (trigger whole target n)
  unfolding trigger
  follows_trigger = follows_weaker (λ b a ts rest h. elim h [
    | inl (v, us, p, x, i, (j, q)) ↦ rw (x, j, q) (ReadsTrigger.star (mark_some (codes "*") v p i).0)
    | inr d ↦ inner_trigger_from b a ts rest d
  ])
      (follows_if (mark (codes "*")) (λ _ _. Nothing g.Star) (λ b. ReadsParenthesized (Inner b)) _ _ (λ v p h. follows_pure g.Star) (follows_parenthesized Inner (inner_trigger whole target n) follows_inner))

  -- ---- what the grammar derives is read

  event_reads : {a : Event} {ts rest : List Token} → ReadsEvent a ts rest → event whole target n ts ≡ Ok (a, rest)
  unfolding event
  event_reads (ReadsEvent.either_way d) = let w = named_identifier d in rw (named_no_word (codes "posedge") w, named_no_word (codes "negedge") w, identifier_reads d) refl
  event_reads (ReadsEvent.rising {n} {word} {ts} h d) = rw (keyword_next (codes "posedge") word ts h refl, identifier_reads d) refl
  event_reads (ReadsEvent.falling {n} {word} {ts} h d) = rw (keyword_apart (codes "posedge") (codes "negedge") word ts h refl, keyword_next (codes "negedge") word ts h refl, identifier_reads d) refl

  between_here : (v : Token) (us : List Token) → IsBetweenEvents v → next_by (between_events whole target n) (v ∷ us) ≡ Some (v.place, us)
  unfolding between_events
  between_here v us (inl h) = next_by_here (between_events whole target n) v us v.place (rw (keyword_here (codes "or") (codes "or") v h refl) refl)
  between_here v us (inr h) = next_by_here (between_events whole target n) v us v.place (rw (no_keyword (codes "or") v (k.Mark (codes ",")) h refl, mark_here (codes ",") (codes ",") v h refl) refl)

  further_reads : {es : List Event} {ts rest : List Token} → ReadsFurtherEvents es ts rest → (j : ℕ) → length ts < j → next_by (between_events whole target n) rest ≡ None → many (between_events whole target n) (λ _. event whole target n) j ts ≡ Ok (es, rest)
  unfolding many
  further_reads d zero l w = absurd (omega arith)
  further_reads ReadsFurtherEvents.no_event (suc j) l w = rw w refl
  further_reads (ReadsFurtherEvents.an_event {a} {others} {between} {ts} {us} {rest} h d f) (suc j) l w = rw (between_here between ts h, event_reads d, further_reads {es = others} {ts = us} f j (omega (arith, shorter_event d)) w) refl

  pub events_read : {es : List Event} {ts rest : List Token} → ReadsEvents es ts rest → length ts < n → next_by (between_events whole target n) rest ≡ None → events whole target n ts ≡ Ok (es, rest)
  unfolding events
  events_read d l w = let q = events_parts d in rw (q.3, event_reads q.4, further_reads q.5 n (omega (arith, l, shorter_event q.4)) w) refl

  closing_apart : (v : Token) (us : List Token) → IsMark (codes ")") v → next_by (between_events whole target n) (v ∷ us) ≡ None
  unfolding between_events
  closing_apart v us h = none_here (between_events whole target n) v us (rw (no_keyword (codes "or") v (k.Mark (codes ")")) h refl, no_mark (codes ",") v (k.Mark (codes ")")) h refl) refl)

  pub trigger_reads : {a : Trigger} {ts rest : List Token} → ReadsTrigger a ts rest → length ts < n → trigger whole target n ts ≡ Ok (a, rest)
  unfolding trigger inner_trigger
  trigger_reads (ReadsTrigger.star {t} {rest} h) l = rw (mark_next (codes "*") t rest h refl) refl
  trigger_reads (ReadsTrigger.star_inside {opening} {t} {closing} {rest} h i j) l =
      rw (mark_apart (codes "*") (codes "(") opening (t ∷ closing ∷ rest) h refl, mark_next (codes "(") opening (t ∷ closing ∷ rest) h refl, mark_next (codes "*") t (closing ∷ rest) i refl, mark_next (codes ")") closing rest j refl) refl
  trigger_reads (ReadsTrigger.events (ReadsParenthesized.parenthesized {a} {opening} {closing} {ts} {rest} h d i)) l =
      rw (mark_apart (codes "*") (codes "(") opening ts h refl, mark_next (codes "(") opening ts h refl, events_no_mark (codes "*") d, events_read d (omega (arith, l)) (closing_apart closing rest i), mark_next (codes ")") closing rest i refl) refl
