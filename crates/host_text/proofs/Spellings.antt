-- What a line says is spelt as it may be.
use Rattle.std.specs.Prelude.{⊤}
use Rattle.std.proofs.Common.{◌≡◌, ℕ, ◌≤◌, Bool, true, false, ◌&&◌, nat_le, if◌then◌else◌, List, [], ◌∷◌, length, Option, Some, None, IfSome, option_map, Result, Ok, Err, codes, refl, sym}
use Rattle.std.specs.Str.{bytes_eq}
use Rattle.std.specs.Str.Lines.{strip_carriage_return}
use Rattle.std.specs.List.{list_all}
use Rattle.std.proofs.lemmas.Bool.{leb-true, and_parts, true≢false}
use Rattle.host_text.specs.Words.{is_plain, words, is_digit, is_name, is_save_name, is_path, value, number}
use Rattle.host_text.specs.Statements.{Statement, checked, capacity_of, capacity, fabric, tenant, file, resume, order, at_order, at, free_order, watch, free, statement, one_said, said, says}
use Rattle.host_text.specs.Statements as line

-- ---- statements

abbrev pub IsSpeltOrder : line.Order → Type 0
IsSpeltOrder (line.Save name) = is_save_name name ≡ true
IsSpeltOrder (line.Move fabric) = ⊤
IsSpeltOrder line.Stop = ⊤

abbrev IsSmall : ℕ → Type 0
IsSmall n = n ≤ 1000000000

abbrev pub IsSpeltStatement : Statement → Type 0
IsSpeltStatement (line.Fabric name room) = (is_name name ≡ true) × (room.registers ≤ 1000000000) × (room.cells ≤ 1000000000) × (room.memory ≤ 1000000000)
IsSpeltStatement (line.Tenant name source fabric budget) = (is_name name ≡ true) × (is_path source ≡ true) × (budget ≤ 1000000000)
IsSpeltStatement (line.File tenant name path) = (is_path name ≡ true) × (is_path path ≡ true)
IsSpeltStatement (line.Resume tenant path) = is_path path ≡ true
IsSpeltStatement (line.At tenant tick order) = IsSpeltOrder order
IsSpeltStatement (line.Free tenant order) = IsSpeltOrder order
IsSpeltStatement (line.Watch tenant) = ⊤

abbrev IsSpeltAnswer : Result Statement ℕ → Type 0
IsSpeltAnswer (Ok x) = IsSpeltStatement x
IsSpeltAnswer (Err cause) = ⊤

abbrev pub IsSpeltSaid : Result (Option Statement) ℕ → Type 0
IsSpeltSaid (Ok (Some x)) = IsSpeltStatement x
IsSpeltSaid (Ok None) = ⊤
IsSpeltSaid (Err cause) = ⊤

-- ---- choices

chosen : {X : Type 0} (P : X → Type 0) (b : Bool) (x y : X) → P x → P y → P (if b then x else y)
chosen P true x y p q = p
chosen P false x y p q = q

mapped : {X Y : Type 0} (P : Y → Type 0) (f : X → Y) (o : Option X) → IfSome o (λ x. P (f x)) → IfSome (option_map f o) P
mapped P f None h = tt
mapped P f (Some x) h = h

always : {X : Type 0} (P : Type 0) (o : Option X) → P → IfSome o (λ x. P)
always P None p = tt
always P (Some x) p = p

three : (a b c : Bool) → (a && b && c) ≡ true → (a ≡ true) × (b ≡ true) × (c ≡ true)
three true true true e = (refl, refl, refl)
three true true false e = absurd (true≢false (sym e))
three true false c e = absurd (true≢false (sym e))
three false b c e = absurd (true≢false (sym e))

-- ---- numbers

small : (n : ℕ) (b : Bool) → nat_le n 1000000000 ≡ b → IfSome (if b then Some n else None) IsSmall
small n true e = leb-true n 1000000000 e
small n false e = tt

small-digits : (a b c : Bool) (n : ℕ) → IfSome (if a && b && c && nat_le n 1000000000 then Some n else None) IsSmall
small-digits false b c n = tt
small-digits true false c n = tt
small-digits true true false n = tt
small-digits true true true n = small n (nat_le n 1000000000) refl

number-small : (word : List ℕ) → IfSome (number word) IsSmall
number-small word = small-digits (nat_le 1 (length word)) (nat_le (length word) 10) (list_all is_digit word) (value 0 word)

-- ---- lines

checked-spelt : (names : Bool) (o : Option Statement) → (names ≡ true → IfSome o IsSpeltStatement) → IsSpeltAnswer (checked names o)
checked-spelt true None h = tt
checked-spelt false None h = tt
checked-spelt true (Some x) h = h refl
checked-spelt false (Some x) h = tt

room-spelt : (name : List ℕ) (r c m : Option ℕ) → is_name name ≡ true → IfSome r IsSmall → IfSome c IsSmall → IfSome m IsSmall
    → IfSome (capacity_of r c m) (λ room. IsSpeltStatement (line.Fabric name room))
room-spelt name (Some r) (Some c) (Some m) e h i j = (e, h, i, j)
room-spelt name (Some r) (Some c) None e h i j = tt
room-spelt name (Some r) None m e h i j = tt
room-spelt name None c m e h i j = tt

fabric-spelt : (ws : List (List ℕ)) → IsSpeltAnswer (fabric ws)
fabric-spelt [] = tt
fabric-spelt (name ∷ []) = tt
fabric-spelt (name ∷ r ∷ []) = tt
fabric-spelt (name ∷ r ∷ c ∷ []) = tt
fabric-spelt (name ∷ r ∷ c ∷ m ∷ []) =
    checked-spelt (is_name name) (option_map (line.Fabric name) (capacity r c m))
    (λ e. mapped IsSpeltStatement (line.Fabric name) (capacity r c m) (room-spelt name (number r) (number c) (number m) e (number-small r) (number-small c) (number-small m)))
fabric-spelt (name ∷ r ∷ c ∷ m ∷ more ∷ ws) = tt

budget-spelt : (name source home : List ℕ) (o : Option ℕ) → is_name name ≡ true → is_path source ≡ true → IfSome o IsSmall → IfSome o (λ n. IsSpeltStatement (line.Tenant name source home n))
budget-spelt name source home None e f h = tt
budget-spelt name source home (Some n) e f h = (e, f, h)

tenant-spelt : (ws : List (List ℕ)) → IsSpeltAnswer (tenant ws)
tenant-spelt [] = tt
tenant-spelt (name ∷ []) = tt
tenant-spelt (name ∷ source ∷ []) = tt
tenant-spelt (name ∷ source ∷ home ∷ []) = tt
tenant-spelt (name ∷ source ∷ home ∷ ticks ∷ []) =
    checked-spelt (is_name name && is_path source && is_name home) (option_map (line.Tenant name source home) (number ticks))
    (λ e. let all = three (is_name name) (is_path source) (is_name home) e in
    mapped IsSpeltStatement (line.Tenant name source home) (number ticks) (budget-spelt name source home (number ticks) all.0 all.1 (number-small ticks)))
tenant-spelt (name ∷ source ∷ home ∷ ticks ∷ more ∷ ws) = tt

file-spelt : (ws : List (List ℕ)) → IsSpeltAnswer (file ws)
file-spelt [] = tt
file-spelt (owner ∷ []) = tt
file-spelt (owner ∷ name ∷ []) = tt
file-spelt (owner ∷ name ∷ path ∷ []) =
    checked-spelt (is_name owner && is_path name && is_path path) (Some (line.File owner name path))
    (λ e. let all = three (is_name owner) (is_path name) (is_path path) e in (all.1, all.2))
file-spelt (owner ∷ name ∷ path ∷ more ∷ ws) = tt

resume-spelt : (ws : List (List ℕ)) → IsSpeltAnswer (resume ws)
resume-spelt [] = tt
resume-spelt (owner ∷ []) = tt
resume-spelt (owner ∷ path ∷ []) = checked-spelt (is_name owner && is_path path) (Some (line.Resume owner path)) (λ e. (and_parts (is_name owner) (is_path path) e).1)
resume-spelt (owner ∷ path ∷ more ∷ ws) = tt

-- ---- orders

-- an order whose name is right
abbrev IsSpeltIf : Bool × line.Order → Type 0
IsSpeltIf o = o.0 ≡ true → IsSpeltOrder o.1

order-spelt : (verb : List ℕ) (ws : List (List ℕ)) → IfSome (order verb ws) IsSpeltIf
order-spelt verb [] = chosen (λ o. IfSome o IsSpeltIf) (bytes_eq verb (codes "stop")) (Some (true, line.Stop)) None (λ e. tt) tt
order-spelt verb (name ∷ []) =
    chosen (λ o. IfSome o IsSpeltIf) (bytes_eq verb (codes "move")) (Some (is_name name, line.Move name))
    (if bytes_eq verb (codes "save") then Some (is_save_name name, line.Save name) else None) (λ e. tt)
    (chosen (λ o. IfSome o IsSpeltIf) (bytes_eq verb (codes "save")) (Some (is_save_name name, line.Save name)) None (λ e. e) tt)
order-spelt verb (name ∷ more ∷ ws) = tt

at-order : (owner tick : List ℕ) (o : Option (Bool × line.Order)) → IfSome o IsSpeltIf → IsSpeltAnswer (at_order owner tick o)
at-order owner tick None h = tt
at-order owner tick (Some o) h =
    checked-spelt (is_name owner && o.0) (option_map (λ n. line.At owner n o.1) (number tick))
    (λ e. mapped IsSpeltStatement (λ n. line.At owner n o.1) (number tick) (always (IsSpeltOrder o.1) (number tick) (h (and_parts (is_name owner) o.0 e).1)))

at-spelt : (ws : List (List ℕ)) → IsSpeltAnswer (at ws)
at-spelt [] = tt
at-spelt (owner ∷ []) = tt
at-spelt (owner ∷ tick ∷ []) = tt
at-spelt (owner ∷ tick ∷ verb ∷ ws) = at-order owner tick (order verb ws) (order-spelt verb ws)

free-order : (owner : List ℕ) (o : Option (Bool × line.Order)) → IfSome o IsSpeltIf → IsSpeltAnswer (free_order owner o)
free-order owner None h = tt
free-order owner (Some o) h = checked-spelt (is_name owner && o.0) (Some (line.Free owner o.1)) (λ e. h (and_parts (is_name owner) o.0 e).1)

watch-spelt : (owner : List ℕ) (ws : List (List ℕ)) → IsSpeltAnswer (watch owner ws)
watch-spelt owner [] = checked-spelt (is_name owner) (Some (line.Watch owner)) (λ e. tt)
watch-spelt owner (more ∷ ws) = tt

free-spelt : (ws : List (List ℕ)) → IsSpeltAnswer (free ws)
free-spelt [] = tt
free-spelt (verb ∷ []) = tt
free-spelt (verb ∷ owner ∷ ws) =
    chosen IsSpeltAnswer (bytes_eq verb (codes "watch")) (watch owner ws) (free_order owner (order verb ws)) (watch-spelt owner ws) (free-order owner (order verb ws) (order-spelt verb ws))

-- ---- the whole line

statement-spelt : (word : List ℕ) (ws : List (List ℕ)) → IsSpeltAnswer (statement word ws)
statement-spelt word ws =
    chosen IsSpeltAnswer (bytes_eq word (codes "at")) (at ws) _ (at-spelt ws)
    (chosen IsSpeltAnswer (bytes_eq word (codes "file")) (file ws) _ (file-spelt ws)
    (chosen IsSpeltAnswer (bytes_eq word (codes "free")) (free ws) _ (free-spelt ws)
    (chosen IsSpeltAnswer (bytes_eq word (codes "tenant")) (tenant ws) _ (tenant-spelt ws)
    (chosen IsSpeltAnswer (bytes_eq word (codes "fabric")) (fabric ws) _ (fabric-spelt ws)
    (chosen IsSpeltAnswer (bytes_eq word (codes "resume")) (resume ws) (Err 1) (resume-spelt ws) tt)))))

answer-spelt : (a : Result Statement ℕ) → IsSpeltAnswer a → IsSpeltSaid (one_said a)
answer-spelt (Ok x) h = h
answer-spelt (Err cause) h = tt

said-spelt : (ws : List (List ℕ)) → IsSpeltSaid (said ws)
said-spelt [] = tt
said-spelt (word ∷ ws) = answer-spelt (statement word ws) (statement-spelt word ws)

pub says-spelt : (text : List ℕ) → IsSpeltSaid (says text)
says-spelt text =
    let plain = strip_carriage_return text in
    chosen IsSpeltSaid (is_plain plain) (said (words plain)) (Err 8) (said-spelt (words plain)) tt
