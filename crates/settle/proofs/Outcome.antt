-- Questions 2 to 15, one by one.
use mathlib.Core.Path.{◌≡◌, refl, ap, ◌∙◌}
use mathlib.Core.Bool.{true, false}
use mathlib.Core.Option.{Option, none, some}
use mathlib.Core.List.{List}
use Prim.Native.Nat.{ℕ}
use native.Mathlib.Omega.{arith}
use Rattle.definitions.specs.Bytes.{Answer, refused, accepted, when_accepted}
use Rattle.definitions.specs.Tree.{Block}
use Rattle.definitions.specs.Parse.{read_tree}
use Rattle.definitions.specs.Wellformed.{ask_block, first_no, block_questions, refused_by, well_formed, check_tree}
use Rattle.definitions.specs.Tables.{Tables}
use Rattle.definitions.specs.Lower.{compile}
use Rattle.definitions.specs.Module.{Limits, slots_fit, tables_fit, fits, lower_formed, lower_tables}

well-formed-is : (b c : Block) (o : Option ℕ) → refused_by o b ≡ accepted c → c ≡ b
unfolding refused_by
well-formed-is b c none e = cc
well-formed-is b c (some q) e = let z : ◌≡◌ {A = ℕ} 0 1 = cc in absurd (omega arith)

-- an accepted tree is read as its block, which is well formed
pub record Checks (tree : List ℕ) (b : Block) : Type 0 where
  pub reads : read_tree tree ≡ accepted b
  pub formed : well_formed b ≡ accepted b

pub check-gives : (tree : List ℕ) (b : Block) → check_tree tree ≡ accepted b → Checks tree b
unfolding check_tree when_accepted well_formed
check-gives tree b = go (read_tree tree) refl
  where
    go : (r : Answer Block) → read_tree tree ≡ r → when_accepted r well_formed ≡ accepted b → Checks tree b
    go (refused q) h e = let z : ◌≡◌ {A = ℕ} 0 1 = cc in absurd (omega arith)
    go (accepted a) h e =
        let x : b ≡ a = well-formed-is a b (first_no (λ q. ask_block q false a) block_questions) e in
        rw x (record { reads = h; formed = e ∙ ap accepted x })

module _ (l : Limits) (tree : List ℕ) where
  -- 2 to 13
  pub tables-refused : (q : ℕ) → check_tree tree ≡ refused q → lower_tables l tree ≡ refused q
  unfolding lower_tables when_accepted
  tables-refused q e = rw (e, lower_tables)

  pub tables-fit : (b : Block) → check_tree tree ≡ accepted b → lower_tables l tree ≡ fits l (compile b).tables
  unfolding lower_tables lower_formed when_accepted
  tables-fit b e = rw (e, lower_tables)

module _ (l : Limits) where
  -- 14
  pub fits-slots : (t : Tables) → slots_fit t ≡ false → fits l t ≡ refused 14
  unfolding fits
  fits-slots t e = rw (e, fits)

  -- 15
  pub fits-over : (t : Tables) → slots_fit t ≡ true → tables_fit l t ≡ false → fits l t ≡ refused 15
  unfolding fits
  fits-over t e f = rw (e, fits) (rw f)

  pub fits_all : (t : Tables) → slots_fit t ≡ true → tables_fit l t ≡ true → fits l t ≡ accepted t
  unfolding fits
  fits_all t e f = rw (e, fits) (rw f)
