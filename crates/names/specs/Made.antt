-- Names that the lowering makes: their bytes, and how they stand among the made bytes.
use Rattle.std.specs.Prelude.{ℕ, ◌+◌, ◌≡◌, List, ◌++◌, length, take, drop, get_or}
use Rattle.definitions.specs.Bytes.{Name, ascii}
use Rattle.definitions.specs.Lower.{main, iter_name, lambda_name}
use Rattle.state.specs.Words.{name_at}
use Rattle.names.specs.declared.Made.{Made}
use Rattle.names.specs.declared.Made.TheVariants.{Main, Iter, HasNext, Next, Iterator, Lambda}

unfoldable pub made_name : Made → Name
made_name Main = main
made_name Iter = ascii "__iter__"
made_name HasNext = ascii "__has_next__"
made_name Next = ascii "__next__"
made_name (Iterator place) = iter_name place
made_name (Lambda n) = lambda_name n

-- xs with s in it from p on
unfoldable pub pasted : List ℕ → ℕ → List ℕ → List ℕ
pasted s p xs = take p xs ++ (s ++ drop (p + length s) xs)

-- the name x stands at p with its length before it, and what was before p still does
pub record NameStands (x : Name) (p : ℕ) (made made' : List ℕ) : Type 0 where
  pub name : name_at made' p ≡ x
  pub size : get_or made' p 0 ≡ length x
  pub before : take p made' ≡ take p made
