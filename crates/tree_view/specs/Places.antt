-- What stands at a position of a tree, and where it ends: nodes, counts, names, parameters, texts. The contracts of every pass over the tree cite these.
use Rattle.std.specs.Prelude.{ℕ, zero, suc, ◌+◌, ◌*◌, ◌-◌, ◌<◌, ◌≤◌, ◌≡◌, Bool, true, false, List, [], ◌∷◌, length, take, drop, get_or}
use Rattle.definitions.specs.Bytes.{Name, Text, Parsed, got, failed, Parser, field}

-- what is read, and the position after it
pub record Node (A : Type 0) : Type 0 where
  pub value : A
  pub end : ℕ

abbrev pub node : {A : Type 0} → A → ℕ → Node A
node a m = record { value = a; end = m }

-- the node that a parser reads at p in t; z at 0 where it reads none
unfoldable pub node_of : {A : Type 0} → A → List ℕ → Parsed A → Node A
node_of z t (got a rest) = node a (length t - length rest)
node_of z t (failed q) = node z 0

unfoldable pub node_at : {A : Type 0} → A → Parser A → List ℕ → ℕ → Node A
node_at z P t p = node_of z t (P (drop p t))

-- the parser reads at p
unfoldable pub is_got : {A : Type 0} → Parsed A → Bool
is_got (got a rest) = true
is_got (failed q) = false

pub record Reads {A : Type 0} (P : Parser A) (t : List ℕ) (p : ℕ) : Type 0 where
  pub start : p ≤ length t
  pub read : is_got (P (drop p t)) ≡ true

-- ---- counts and numbers

-- the count of two bytes at p, and that it is there
unfoldable pub count_at : List ℕ → ℕ → ℕ
count_at t p = get_or t p 0 * 256 + get_or t (p + 1) 0

pub record CountThere (t : List ℕ) (p : ℕ) : Type 0 where
  pub bytes : p + 2 ≤ length t

-- the number of eight bytes at p
unfoldable pub eight_at : List ℕ → ℕ → ℕ
eight_at t p = (node_at 0 (field 8) t p).value

-- ---- names

-- the name at p, whose length byte and bytes are in t; where it ends
unfoldable pub name_from : List ℕ → ℕ → Name
name_from t p = take (get_or t p 0) (drop (p + 1) t)

unfoldable pub name_end : List ℕ → ℕ → ℕ
name_end t p = p + 1 + get_or t p 0

pub record There (t : List ℕ) (p : ℕ) : Type 0 where
  pub byte : p < length t
  pub bytes : p + 1 + get_or t p 0 ≤ length t

-- n names from p on; where they end
unfoldable pub names_from : List ℕ → ℕ → ℕ → List Name
names_from t zero p = []
names_from t (suc n) p = name_from t p ∷ names_from t n (name_end t p)

unfoldable pub names_end : List ℕ → ℕ → ℕ → ℕ
names_end t zero p = p
names_end t (suc n) p = names_end t n (name_end t p)

unfoldable pub AllThere : List ℕ → ℕ → ℕ → Type 0
AllThere t zero p = Unit {0}
AllThere t (suc n) p = There t p × AllThere t n (name_end t p)

-- a parameter list
pub record ParamsAt (t : List ℕ) (p : ℕ) : Type 0 where
  pub count : CountThere t p
  pub names : AllThere t (count_at t p) (p + 2)

unfoldable pub params_at : List ℕ → ℕ → Node (List Name)
params_at t p = node (names_from t (count_at t p) (p + 2)) (names_end t (count_at t p) (p + 2))

-- ---- texts

pub record TextAt (t : List ℕ) (p : ℕ) : Type 0 where
  pub count : CountThere t p
  pub bytes : p + 2 + count_at t p ≤ length t

unfoldable pub text_node_at : List ℕ → ℕ → Node Text
text_node_at t p = node (take (count_at t p) (drop (p + 2) t)) (p + 2 + count_at t p)
