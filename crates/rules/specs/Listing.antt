-- Section 15 of docs/RULES.md: what the listing program prints for a text.
use Rattle.std.specs.Prelude.{ℕ, ◌≡◌, length}
use mathlib.Core.List.{List, [], ◌∷◌, ◌++◌, flat_map}
use Rattle.std.proofs.Math.Option.{Option, none, some}
use Rattle.ground.specs.Lists.{first_of}
use Rattle.rules.specs.declared.Product.{Product}
use Rattle.rules.specs.declared.Refusal.{Refusal}
use Rattle.rules.specs.Rules.{number_of}
use Rattle.rules.specs.Boxes.{full_range}
use Rattle.rules.specs.Table.{primitives}
use Rattle.rules.specs.Tree.{tree_of}
use Rattle.rules.specs.Products.{products}
use Rattle.rules.specs.Text.{tab, line_feed, decimal_in}
use Rattle.rules.specs.TextForm.{TextForm}
use Rattle.rules.specs.ListCalls.{make_refusal}
use Rattle.rules.specs.TextCalls.{table_read, form_refusal}
use Rattle.rules.specs.Outcome.{over}

abbrev pub listing_room : ℕ
listing_room = 8192

-- twenty digits write every number of 64 bits
abbrev pub word_text : ℕ → List ℕ
word_text n = decimal_in 20 n

-- list
abbrev pub list_name : List ℕ
list_name = 108 ∷ 105 ∷ 115 ∷ 116 ∷ []

-- refused
abbrev pub refused_name : List ℕ
refused_name = 114 ∷ 101 ∷ 102 ∷ 117 ∷ 115 ∷ 101 ∷ 100 ∷ []

abbrev pub count_line : ℕ → List ℕ
count_line count = list_name ++ (tab ∷ (word_text count ++ (line_feed ∷ [])))

abbrev pub product_line : Product → List ℕ
product_line c = word_text c.plain ++ (tab ∷ (word_text c.cuts ++ (line_feed ∷ [])))

abbrev pub list_lines : List Product → List ℕ
list_lines ps = count_line (length ps) ++ flat_map product_line ps

abbrev pub refusal_line : Refusal → List ℕ
refusal_line r = refused_name ++ (tab ∷ (word_text (number_of r.rule) ++ (tab ∷ (word_text r.value ++ (line_feed ∷ [])))))

abbrev pub printed : Option Refusal → List Product → List ℕ
printed none ps = list_lines ps
printed (some r) ps = refusal_line r

-- the text's form, then what making the list refuses, the table's refusals first
abbrev pub listing_refusal : {text : List ℕ} → TextForm text → Option Refusal
listing_refusal form = first_of (form_refusal form ∷ make_refusal (table_read form) full_range listing_room ∷ [])

abbrev pub listing : {text : List ℕ} → TextForm text → List ℕ
listing form = printed (listing_refusal form) (products full_range (primitives (table_read form)) (tree_of (table_read form)))

pub record ZoneListed (text : List ℕ) (before after : List ℕ) (bytes : ℕ) : Type 0 where
  pub form : TextForm text
  pub size : bytes ≡ length (listing form)
  pub buffer : after ≡ over (listing form) before
