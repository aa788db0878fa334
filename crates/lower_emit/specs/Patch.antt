-- Pending jumps of a loop's inside, by words.
use Rattle.std.specs.Prelude.{ℕ, suc, ◌+◌, ◌-◌, ◌^◌, true, false, List, [], ◌∷◌, eqb}
use Rattle.state.specs.Words.{word, op_of}

-- the word at place i of an inside of n words: a pending break or continue as a jump, any other as it is
unfoldable pub patch_word : ℕ → ℕ → ℕ → ℕ → ℕ
patch_word h n i w =
    elim (eqb (op_of w) 46) [
      | true ↦ word 28 (n - i) 0
      | false ↦
          elim (eqb (op_of w) 47) [ true ↦ word 28 (2 ^ 16 - (h + suc i)) 0 | false ↦ w ]
    ]

-- the words from place i on
unfoldable pub patch_words : ℕ → ℕ → ℕ → List ℕ → List ℕ
patch_words h n i [] = []
patch_words h n i (w ∷ ws) = patch_word h n i w ∷ patch_words h n (suc i) ws
