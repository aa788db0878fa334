-- A run of constants grows by one; the run of a part is one of the whole.
use Prim.Native.Nat.{ℕ, zero, suc, ◌+◌, ◌-◌, ◌≤◌, ◌<◌}
use mathlib.Core.Path.{◌≡◌, refl, sym, ap, subst, ◌∙◌}
use mathlib.Core.List.{List, ◌++◌}
use native.Mathlib.Omega.{arith}
use native.Mathlib.Numerals.{add-one}
use native.Mathlib.Nat.{zero-add}
use lib.ListN.{length, take, drop, get_or, set, length-set, length-drop}
use lib.Seq.{length-take-le}
use borrow.Rule.Slice.PartMut.{put_mid, mid_of, post_of, put_same}
use Rattle.std.proofs.lemmas.List.{set-append_left, set-append_right}
use Rattle.tree_view.specs.ExprAt.{expr_at}
use Rattle.tree_view.proofs.ExprViews.{expr-known}
use Rattle.state.specs.Words.{word}
use Rattle.lower_forms.specs.Lowerable.{Lowerable, LowerableMany}
use Rattle.lower_forms.proofs.ExprArms.{arm-inside, many-at}
use Rattle.lower_forms.proofs.Constants.{arm-constant}
use Rattle.lower_forms.proofs.Elements.{more-view}
use Rattle.lower_leaves.specs.Constants.{Ahead, constants_put, Run}

-- r constants are put in the place of the first r words
pub record Running (r : ℕ) (t : List ℕ) (p : ℕ) (ws ws' : List ℕ) : Type 0 where
  pub inside : r ≤ length ws
  pub small : (i : ℕ) → i < r → get_or t (p + i) 0 < 3
  pub words : ws' ≡ constants_put ws 0 t p r
  pub depth : ℕ
  pub left : ℕ
  pub enough : length ws ≤ r + left
  pub rest : LowerableMany depth left t (p + r)
  pub kept : length ws' ≡ length ws

pub running-start : {t : List ℕ} {p : ℕ} {ws : List ℕ} → Ahead (length ws) t p → Running 0 t p ws ws
unfolding constants_put
running-start {t} {p} {ws} A = record {
  inside = omega arith;
  small = λ i z. absurd (omega arith);
  words = refl;
  depth = A.several.depth;
  left = A.count;
  enough = omega (arith, A.enough);
  rest = many-at A.several.depth A.count A.count t p (p + 0) refl (omega arith) A.several.elements;
  kept = refl;
}

module _ {r : ℕ} {t : List ℕ} {p : ℕ} {ws ws' : List ℕ} (G : Running r t p ws ws') where
  module _ (more : r < length ws) where
    abbrev d : ℕ
    d = G.depth

    pub running-head : Lowerable d t (p + r)
    running-head = (more-view d G.left t (p + r) (omega (arith, G.enough)) G.rest).head

    pub running-inside : p + r < length t
    running-inside = arm-inside d t (p + r) running-head

    pub running-known : get_or t (p + r) 0 < 18
    running-known = expr-known d t (p + r) running-head.reads

    pub running-next : (w : ℕ) → get_or t (p + r) 0 < 3 → w ≡ word (5 - get_or t (p + r) 0) 0 0 → Running (r + 1) t p ws (set ws' r w)
    unfolding constants_put
    running-next w k e =
        let v = more-view d G.left t (p + r) (omega (arith, G.enough)) G.rest in
        let end = (arm-constant d t (p + r) running-head (get_or t (p + r) 0) refl k).end in
        record {
          inside = omega arith;
          small = λ i z. small-more i z;
          words = (λ j. set (G.words j) (sym (zero-add r) j) (e j)) ∙ ap (constants_put ws 0 t p) (sym (add-one r));
          depth = d;
          left = G.left - 1;
          enough = omega (arith, G.enough);
          rest = many-at d (G.left - 1) (G.left - 1) t (expr_at d t (p + r)).end (p + (r + 1)) refl (omega (arith, end)) v.rest;
          kept = length-set ws' r w ∙ G.kept;
        }
      where
        small-more : (i : ℕ) → i < r + 1 → get_or t (p + i) 0 < 3
        small-more i z = go (r - i) refl
          where
            go : (m : ℕ) → r - i ≡ m → get_or t (p + i) 0 < 3
            go zero e = let q : i ≡ r = omega arith in subst (λ (j : ℕ). get_or t (p + j) 0 < 3) (sym q) k
            go (suc m) e = G.small i (omega arith)

-- ---- a part put back

set-part : (o m : ℕ) (xs ys : List ℕ) (j v : ℕ) → o ≤ length xs → j < length ys → put_mid o m xs (set ys j v) ≡ set (put_mid o m xs ys) (o + j) v
set-part o m xs ys j v h k =
    let e : o + j - o ≡ j = omega arith in
    sym (set-append_right (take o xs) (ys ++ post_of o m xs) o (o + j) v (length-take-le o xs h) (omega arith)
    ∙ ap (λ (n : ℕ). take o xs ++ set (ys ++ post_of o m xs) n v) e ∙ ap (λ (zs : List ℕ). take o xs ++ zs) (set-append_left ys (post_of o m xs) j v k))

put-length : (ws : List ℕ) (o : ℕ) (t : List ℕ) (p r : ℕ) → length (constants_put ws o t p r) ≡ length ws
unfolding constants_put
put-length ws o t p zero = refl
put-length ws o t p (suc r) = length-set (constants_put ws o t p r) (o + r) (word (5 - get_or t (p + r) 0) 0 0) ∙ put-length ws o t p r

part-put : (o m : ℕ) (xs t : List ℕ) (p r : ℕ) → o ≤ length xs → r ≤ length (mid_of o m xs) → put_mid o m xs (constants_put (mid_of o m xs) 0 t p r) ≡ constants_put xs o t p r
unfolding constants_put
part-put o m xs t p zero h k = put_same o m xs
part-put o m xs t p (suc r) h k =
    let w = word (5 - get_or t (p + r) 0) 0 0 in
    let ys = constants_put (mid_of o m xs) 0 t p r in
    ap (λ (n : ℕ). put_mid o m xs (set ys n w)) (zero-add r) ∙ set-part o m xs ys r w h (omega (arith, put-length (mid_of o m xs) 0 t p r))
    ∙ ap (λ (zs : List ℕ). set zs (o + r) w) (part-put o m xs t p r h (omega arith))

-- m words from the o-th on, as a part
pub run-part : {r n room : ℕ} {t : List ℕ} {p o : ℕ} {xs ys : List ℕ} (m : ℕ) → o + m ≤ length xs → m ≤ n → o + m ≤ room
    → Run r (length (mid_of o m xs)) t p (mid_of o m xs) ys 0 (length (mid_of o m xs)) → Run r n t p xs (put_mid o m xs ys) o room
run-part {r} {n} {room} {t} {p} {o} {xs} m h few inside g =
    let e : length (mid_of o m xs) ≡ m = length-take-le m (drop o xs) (omega (arith, length-drop o xs)) in
    record {
      few = omega (arith, g.few);
      small = g.small;
      inside = omega (arith, g.few);
      words = ap (λ (zs : List ℕ). put_mid o m xs zs) g.words ∙ part-put o m xs t p r (omega arith) g.few;
    }
