-- What the parser makes of the words of a command.
use Rattle.std.proofs.Common.{◌≡◌, ◌∙◌, ℕ, List, [], ◌∷◌, Bool, true, false, not, refl, sym, ap, subst, codes, ◌≤◌, ◌&&◌, nat_le, arith}
use Rattle.std.specs.Prelude.{box_value, if◌then◌else◌, is_some, Box, Option, Some, None, option_map, ◌==◌}
use Rattle.std.specs.Str.{bytes_eq}
use Rattle.std.proofs.lemmas.Bool.Decides.{nat_tests}
use Rattle.clap.specs.Words.{first_of, first_value, is_simple, rows_of, subcommand_name_of, subcommand_rows, subcommand_of, subcommand_rows_of, takes, App, HasMatchesOf, Row, Text}
use Rattle.clap.specs.declared.parser.matches.ArgMatches.{ArgMatches}
use Rattle.clap.specs.declared.parser.matches.ArgMatches.TheViews.{out-ArgMatches, out-SubCommand}
use Rattle.clap.specs.declared.parser.matches.Found.{Found}
use Rattle.clap.specs.declared.parser.matches.SubCommand.{SubCommand}
use Rattle.clap.proofs.WalkLemmas.{first_value-rows}
use Rattle.clap.proofs.OnLiterals.{clap_on_literals}
use Rattle.host_run.specs.declared.words.Command as said
use Rattle.host_run.specs.declared.words.Command.TheVariants as of
use Rattle.host_run.specs.Said.{command_in, CanBeRun}
use Rattle.host_run.specs.Words.{among, command_by, command_of, number_of, tenants_of, Command, Run, Check, Demo}
use Rattle.host_run.specs.Parser.{program, value_in, IsMatched}
use Rattle.host_text.specs.vl_base.proofs.Lists.{bytes_eq_from as same}

run-taken : (b : ℕ) (bs : List ℕ) → (b == 45) ≡ false → takes program (codes "run" ∷ (b ∷ bs) ∷ []) ≡ true
unfolding clap_on_literals
run-taken b bs h = rw h (rw h refl)

run-value : (b : ℕ) (bs : List ℕ) → (b == 45) ≡ false → value_in (subcommand_of program (codes "run" ∷ (b ∷ bs) ∷ [])) ≡ Some (codes "run", Some (b ∷ bs))
unfolding clap_on_literals
run-value b bs h = rw h (rw h refl)

check-taken : (b : ℕ) (bs : List ℕ) → (b == 45) ≡ false → takes program (codes "check" ∷ (b ∷ bs) ∷ []) ≡ true
unfolding clap_on_literals
check-taken b bs h = rw h (rw h refl)

check-value : (b : ℕ) (bs : List ℕ) → (b == 45) ≡ false → value_in (subcommand_of program (codes "check" ∷ (b ∷ bs) ∷ [])) ≡ Some (codes "check", Some (b ∷ bs))
unfolding clap_on_literals
check-value b bs h = rw h (rw h refl)

demo-taken : (b : ℕ) (bs : List ℕ) → (b == 45) ≡ false → takes program (codes "demo" ∷ (b ∷ bs) ∷ []) ≡ true
unfolding clap_on_literals
demo-taken b bs h = rw h (rw h refl)

demo-value : (b : ℕ) (bs : List ℕ) → (b == 45) ≡ false → value_in (subcommand_of program (codes "demo" ∷ (b ∷ bs) ∷ [])) ≡ Some (codes "demo", Some (b ∷ bs))
unfolding clap_on_literals
demo-value b bs h = rw h (rw h refl)

run-matched : (b : ℕ) (bs verb : List ℕ) → (b == 45) ≡ false → verb ≡ codes "run" → IsMatched verb (b ∷ bs)
run-matched b bs verb h e = subst (λ v. IsMatched v (b ∷ bs)) (sym e) (record { taken = run-taken b bs h; value = run-value b bs h })

check-matched : (b : ℕ) (bs verb : List ℕ) → (b == 45) ≡ false → verb ≡ codes "check" → IsMatched verb (b ∷ bs)
check-matched b bs verb h e = subst (λ v. IsMatched v (b ∷ bs)) (sym e) (record { taken = check-taken b bs h; value = check-value b bs h })

demo-matched : (b : ℕ) (bs verb : List ℕ) → (b == 45) ≡ false → verb ≡ codes "demo" → IsMatched verb (b ∷ bs)
demo-matched b bs verb h e = subst (λ v. IsMatched v (b ∷ bs)) (sym e) (record { taken = demo-taken b bs h; value = demo-value b bs h })

-- ---- the words of a command are a verb and a word

by-verb : (b : ℕ) (bs verb : List ℕ) (c : Command) (y z u : Bool) → (b == 45) ≡ false → bytes_eq verb (codes "run") ≡ y → bytes_eq verb (codes "check") ≡ z → bytes_eq verb (codes "demo") ≡ u
    → (if y then Some (Run (b ∷ bs)) else if z then Some (Check (b ∷ bs)) else if u then option_map Demo (tenants_of (b ∷ bs)) else None) ≡ Some c → IsMatched verb (b ∷ bs)
by-verb b bs verb c true z u h hy hz hu e = run-matched b bs verb h (same verb (codes "run") hy)
by-verb b bs verb c false true u h hy hz hu e = check-matched b bs verb h (same verb (codes "check") hz)
by-verb b bs verb c false false true h hy hz hu e = demo-matched b bs verb h (same verb (codes "demo") hu)
by-verb b bs verb c false false false h hy hz hu e = absurd cc

-- words that are a command, and what the parser makes of them
pub record IsCommand (words : List (List ℕ)) (c : Command) : Type 0 where
  pub verb : List ℕ
  pub word : List ℕ
  pub words_are : words ≡ verb ∷ word ∷ []
  pub by : command_by verb word ≡ Some c
  pub is : IsMatched verb word

by-word : (b : ℕ) (bs verb : List ℕ) (c : Command) (x : Bool) → (b == 45) ≡ x → (if not x then command_by verb (b ∷ bs) else None) ≡ Some c → IsCommand (verb ∷ (b ∷ bs) ∷ []) c
by-word b bs verb c true h e = absurd cc
by-word b bs verb c false h e = record {
  verb = verb;
  word = b ∷ bs;
  words_are = refl;
  by = e;
  is = by-verb b bs verb c (bytes_eq verb (codes "run")) (bytes_eq verb (codes "check")) (bytes_eq verb (codes "demo")) h refl refl refl e;
}

pub matched : (words : List (List ℕ)) (c : Command) → command_of words ≡ Some c → IsCommand words c
matched [] c e = absurd cc
matched (verb ∷ []) c e = absurd cc
matched (verb ∷ [] ∷ []) c e = absurd cc
matched (verb ∷ (b ∷ bs) ∷ []) c e = by-word b bs verb c (b == 45) refl e
matched (verb ∷ word ∷ more ∷ words) c e = absurd cc

-- ---- what the parser gives

program-simple : is_simple program ≡ true
unfolding clap_on_literals
program-simple = refl

pub parsed : (app : App) (words : List (List ℕ)) (m : ArgMatches) (c : Command) → app ≡ program → HasMatchesOf app words m → (k : IsCommand words c)
    → value_in (subcommand_rows_of m) ≡ Some (k.verb, Some k.word)
parsed app words m c e h k =
    ap value_in ((h (ap is_simple e ∙ program-simple)).1 ∙ ap (λ (x : App). subcommand_of x words) e) ∙ ap (λ (ws : List (List ℕ)). value_in (subcommand_of program ws)) k.words_are ∙ k.is.value

some-of : (o : Option Command) → is_some o ≡ true → (c : Command) × (o ≡ Some c)
some-of (Some c) h = (c, refl)
some-of None h = absurd cc

-- none are said where none are some
pub none-of : (o : Option Command) → false ≡ is_some o → o ≡ None
none-of (Some c) h = absurd cc
none-of None h = refl

pub taken : (app : App) (words : List (List ℕ)) → app ≡ program → is_some (command_of words) ≡ true → takes app words ≡ true
taken app words e h =
    let c = some-of (command_of words) h in
    let k = matched words c.0 c.1 in
    ap (λ (x : App). takes x words) e ∙ ap (λ (ws : List (List ℕ)). takes program ws) k.words_are ∙ k.is.taken

-- ---- the value of a subcommand that was matched

pub some-same : {A : Type 0} {x y : A} → Some x ≡ Some y → x ≡ y
some-same e = cc

value-of : (rows : Option (Text × List Row)) (verb word its_verb : Text) (its : List Row) → value_in rows ≡ Some (verb, Some word) → option_map (λ p. p.0) rows ≡ Some its_verb
    → option_map (λ p. p.1) rows ≡ Some its → (its_verb ≡ verb) × (first_of (codes "operand") its ≡ Some word)
value-of None verb word its_verb its h e f = absurd cc
value-of (Some p) verb word its_verb its h f g =
    let both : (p.0, first_of (codes "operand") p.1) ≡ (verb, Some word) = cc in
    let name : p.0 ≡ verb = ap (λ (q : Text × Option Text). q.0) both in
    let value : first_of (codes "operand") p.1 ≡ Some word = ap (λ (q : Text × Option Text). q.1) both in
    (sym (some-same f) ∙ name, ap (first_of (codes "operand")) (sym (some-same g)) ∙ value)

name-rows : {Z : Type 0} (o : Option (Box SubCommand Z)) → option_map (λ b. (out-SubCommand (box_value b)).name.now) o ≡ option_map (λ p. p.0) (subcommand_rows o)
name-rows None = refl
name-rows (Some b) = refl

pub value-of-matches : (m : ArgMatches) (verb word its_verb : List ℕ) (found : Found) → value_in (subcommand_rows_of m) ≡ Some (verb, Some word) → Some its_verb ≡ subcommand_name_of m
    → Some (rows_of found) ≡ option_map (λ p. p.1) (subcommand_rows_of m) → (its_verb ≡ verb) × (first_value found (codes "operand") ≡ Some word)
value-of-matches m verb word its_verb found h name rows =
    let v = value-of (subcommand_rows_of m) verb word its_verb (rows_of found) h (sym (name-rows (out-ArgMatches m).subcommand) ∙ sym name) (sym rows) in
    (v.0, first_value-rows found (codes "operand") ∙ v.1)

-- ---- how many tenants the demonstration has

chosen-few : (m n : ℕ) (x y : Bool) → nat_le 1 m ≡ x → nat_le m 32 ≡ y → option_map Demo (if x && y then Some m else None) ≡ Some (Demo n) → (1 ≤ n) × (n ≤ 32)
chosen-few m n true true some few e = let same : m ≡ n = cc in (grind (arith, nat_tests), grind (arith, nat_tests))
chosen-few m n true false some few e = absurd cc
chosen-few m n false y some few e = absurd cc

among-few : (o : Option ℕ) (n : ℕ) → option_map Demo (among o) ≡ Some (Demo n) → (1 ≤ n) × (n ≤ 32)
among-few None n e = absurd cc
among-few (Some m) n e = chosen-few m n (nat_le 1 m) (nat_le m 32) refl refl e

by-verb-few : (word : List ℕ) (n : ℕ) (x y z : Bool)
    → (if x then Some (Run word) else if y then Some (Check word) else if z then option_map Demo (tenants_of word) else None) ≡ Some (Demo n) → (1 ≤ n) × (n ≤ 32)
by-verb-few word n true y z e = absurd cc
by-verb-few word n false true z e = absurd cc
by-verb-few word n false false true e = among-few (number_of word) n e
by-verb-few word n false false false e = absurd cc

pub can-be-run : (words : List (List ℕ)) (c : said.Command) → command_of words ≡ Some (command_in c) → CanBeRun c
can-be-run words (of.Run path) e = tt
can-be-run words (of.Check path) e = tt
can-be-run words (of.Demo n) e =
    let k = matched words (Demo n) e in
    by-verb-few k.word n (bytes_eq k.verb (codes "run")) (bytes_eq k.verb (codes "check")) (bytes_eq k.verb (codes "demo")) k.by
