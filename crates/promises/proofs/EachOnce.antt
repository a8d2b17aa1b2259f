-- The words of a list hold exactly the products of the choices: of each one that stays, once, in the order of the first that come to them.
-- Assumes nothing.
use Prim.Native.Nat.{ℕ, ◌^◌, ◌<◌}
use native.Mathlib.Nat.{lt_trans}
use native.Mathlib.Omega.{arith}
use mathlib.Core.Bool.{Bool, true, false}
use mathlib.Core.List.{List, ◌++◌}
use mathlib.Core.Path.{◌≡◌, sym, ap, subst, ◌∙◌}
use lib.IntN.{ℤ}
use lib.ListN.{length, get_or, length-append}
use Rattle.ground.specs.Lists.{All}
use Rattle.ground.proofs.Lists.{all_at}
use Rattle.rules.specs.declared.Primitive.{Primitive}
use Rattle.rules.specs.declared.Product.{Product}
use Rattle.rules.specs.declared.Window.{Window}
use Rattle.rules.specs.Boxes.{window_box, empty}
use Rattle.rules.specs.Choices.{choices, in_of}
use Rattle.rules.specs.ListWords.{list_of, product_count, product_at}
use Rattle.rules.specs.Products.{products}
use Rattle.rules.specs.Table.{primitives}
use Rattle.rules.specs.Tree.{tree_of}
use Rattle.promises.specs.EachOnce.{choice, kept, made, FirstChoices, EachOnce}
use Rattle.laws.specs.Plans.{nothing}
use Rattle.laws.specs.Survivors.{pruned, survivors}
use Rattle.laws.specs.Reach.{reach_in, alive_in}
use Rattle.promises.proofs.Origins.{Origins, survivors_order, survivors_has, survivors_distinct}
use Rattle.laws.proofs.Reach.{alive_exact, trimmed_pruned, products_survivors}
use Rattle.laws.proofs.Words.{list_length, list_count, list_product}

-- for a window that is not empty, and choices of the table's primitives only; whatever stands after the list
module _ (t : List ℤ) (w : Window) (filled : empty (window_box w) ≡ false)
    (of-table : All (λ c. c.plain < 2 ^ length (primitives t)) (choices in_of (tree_of t))) (rest : List ℕ) where
  abbrev solids : List Primitive
  solids = primitives t

  abbrev cs : List Product
  cs = choices in_of (tree_of t)

  abbrev ps : List Product
  ps = products w solids (tree_of t)

  abbrev buffer : List ℕ
  buffer = list_of w (length solids) ps ++ rest

  abbrev alive : ℕ → Bool
  alive = alive_in w solids

  abbrev reach : ℕ → ℕ
  reach = reach_in w solids

  same_list : ps ≡ survivors alive reach cs
  same_list = products_survivors w solids filled (tree_of t) of-table

  in_list : {k : ℕ} → k < product_count buffer → k < length (survivors alive reach cs)
  in_list {k} = subst (λ (xs : List Product). k < length xs) same_list

  reads : (k : ℕ) → k < product_count buffer → product_at buffer k ≡ get_or (survivors alive reach cs) k nothing
  reads k l = list_product w (length solids) ps rest nothing k l ∙ ap (λ (xs : List Product). get_or xs k nothing) same_list

  kept_alive : (i : ℕ) → i < length cs → kept t w i ≡ alive (choice t i).plain
  kept_alive i l = alive_exact w solids filled (choice t i) (all_at (λ c. c.plain < 2 ^ length solids) nothing cs of-table i l)

  made_pruned : (i : ℕ) → kept t w i ≡ true → made t w i ≡ pruned alive reach (choice t i)
  made_pruned i = trimmed_pruned w solids (choice t i)

  origins : Origins alive reach cs nothing
  origins = survivors_order alive reach cs nothing

  module _ (k : ℕ) (l : k < product_count buffer) where
    abbrev origin : ℕ
    origin = origins.place k

    origin_choice : origin < length cs
    origin_choice = origins.in_list k (in_list l)

    origin_kept : kept t w origin ≡ true
    origin_kept = kept_alive origin origin_choice ∙ origins.stays k (in_list l)

    origin_gives : product_at buffer k ≡ made t w origin
    origin_gives = reads k l ∙ origins.gives k (in_list l) ∙ sym (made_pruned origin origin_kept)

    origin_first : (i : ℕ) → i < origin → kept t w i ≡ true → product_at buffer k ≡ made t w i → ⊥
    origin_first i h s e =
        origins.first k (in_list l) i h (sym (kept_alive i (lt_trans h origin_choice)) ∙ s)
        (sym (made_pruned i s) ∙ sym e ∙ reads k l ∙ origins.gives k (in_list l))

  first_choices : FirstChoices t w buffer
  first_choices = record {
    place = origins.place;
    is_choice = origin_choice;
    is_kept = origin_kept;
    gives = origin_gives;
    first = origin_first;
    rises = λ j k h l. origins.rises j k h (in_list l);
  }

  is_there : (i : ℕ) → i < length cs → kept t w i ≡ true → (k : ℕ) × (k < product_count buffer) × (product_at buffer k ≡ made t w i)
  is_there i l s =
      let found = survivors_has alive reach cs nothing i l (sym (kept_alive i l) ∙ s) in
      let k : found.0 < product_count buffer = subst (λ (xs : List Product). found.0 < length xs) (sym same_list) found.1 in
      (found.0, k, reads found.0 k ∙ found.2 ∙ sym (made_pruned i s))

  pub each_once : EachOnce t w buffer
  each_once = record {
    number = list_count w (length solids) ps rest;
    room = omega (arith, length-append (list_of w (length solids) ps) rest, list_length w (length solids) ps);
    from = λ k l. (origin k l, origin_choice k l, origin_kept k l, origin_gives k l);
    has = is_there;
    distinct = λ j k h l e. survivors_distinct alive reach cs nothing j k h (in_list l) (sym (reads j (lt_trans h l)) ∙ e ∙ reads k l);
    order = first_choices;
  }
