-- Items against nodes, test by test. Assumes nothing.
use Rattle.std.specs.Prelude.{ℕ, suc, ◌+◌, ◌-◌, ◌≡◌, ◌≢◌, true, ◌&&◌, get_or, take, drop, T}
use Rattle.std.proofs.Math.Path.{refl, ap}
use Rattle.std.proofs.Common.{sym, ◌∙◌, arith}
use Rattle.std.proofs.Math.Bool.{false}
use mathlib.Core.List.{List}
use borrow.Author.Tests.{le-leb, lt-leb, lt-ltb, le-ltb, eq-eqb, ne_eqb}
use Rattle.std.proofs.Math.Dec.{eqb, leb, ltb, leb→le, nleb→lt, ltb→lt, nltb→le, eqb→eq}
use Rattle.rows.specs.Laws.Tests.{by_if}
use Rattle.std.proofs.Math.Facts.{and_yes}
use Rattle.rows.specs.Kinds.{Identifier, End}
use Rattle.rows.specs.Words.{same_exactly}
use Rattle.type_nodes.specs.Shapes.{NoNode, TemplateArguments}
use Rattle.rules.specs.Rules.{Node, word_node, Item, word, kind, group, list, any, good_item, good_kind, fits}
use Rattle.rules.specs.RuleTable.{word_byte, kind_byte, group_byte, any_byte, after_two, item_bytes}
use Rattle.rules.specs.RowSeen.{shape_seen}
use Rattle.rules.specs.ItemsStand.{ItemStands}
use Rattle.rules.specs.Laws.Stand.{byte_at, byte_there, first_byte, word_text}

-- ---- what a shape is seen as

module _ (s : ℕ) (w : List ℕ) where
  seen_word : s ≡ Identifier → shape_seen s w ≡ word_node w
  unfolding shape_seen
  seen_word e = rw (eq-eqb s Identifier e) refl

  -- A word takes no other shape,
  other_shape : (v : List ℕ) → s ≢ Identifier → false ≡ fits (word v) (shape_seen s w)
  unfolding shape_seen fits
  other_shape v d =
      rw (ne_eqb s Identifier d)
      (by_if (λ (n : Node). false ≡ fits (word v) n) (leb s End) (λ _. refl) λ _.
      by_if (λ (n : Node). false ≡ fits (word v) n) (ltb s TemplateArguments) (λ _. refl) (λ _. refl))

  -- a kind its own number,
  same_kind : (k : ℕ) → T (good_kind k) → eqb k s ≡ fits (kind k) (shape_seen s w)
  unfolding shape_seen fits good_kind
  same_kind k g =
      let u = and_yes (leb (suc Identifier) k) (leb k End) g in
      let least = leb→le (suc Identifier) k u.0 in
      let most = leb→le k End u.1 in
      by_if (λ (n : Node). eqb k s ≡ fits (kind k) n) (eqb s Identifier) (λ t. ne_eqb k s (λ e. absurd (omega (arith, e, least, eqb→eq s Identifier t)))) λ _.
      by_if (λ (n : Node). eqb k s ≡ fits (kind k) n) (leb s End) (λ _. refl) λ t.
      let more = nleb→lt s End t in
      by_if (λ (n : Node). eqb k s ≡ fits (kind k) n) (ltb s TemplateArguments) (λ _. ne_eqb k s (λ e. absurd (omega (arith, e, most, more)))) (λ _. ne_eqb k s (λ e. absurd (omega (arith, e, most, more))))

  -- a group those of brackets, a list its own.
  group_shape : (leb NoNode s && ltb s TemplateArguments) ≡ fits group (shape_seen s w)
  unfolding shape_seen fits
  group_shape =
      by_if (λ (n : Node). (leb NoNode s && ltb s TemplateArguments) ≡ fits group n) (eqb s Identifier) (λ t. rw (lt-leb NoNode s (omega (arith, eqb→eq s Identifier t))) refl) λ _.
      by_if (λ (n : Node). (leb NoNode s && ltb s TemplateArguments) ≡ fits group n) (leb s End) (λ t. rw (lt-leb NoNode s (omega (arith, leb→le s End t))) refl) λ t.
      by_if (λ (n : Node). (leb NoNode s && ltb s TemplateArguments) ≡ fits group n) (ltb s TemplateArguments)
      (λ u. rw (le-leb NoNode s (omega (arith, nleb→lt s End t)), lt-ltb s TemplateArguments (ltb→lt s TemplateArguments u)) refl)
      (λ u. rw (le-leb NoNode s (omega (arith, nleb→lt s End t)), le-ltb s TemplateArguments (nltb→le s TemplateArguments u)) refl)

  list_shape : leb TemplateArguments s ≡ fits list (shape_seen s w)
  unfolding shape_seen fits
  list_shape =
      by_if (λ (n : Node). leb TemplateArguments s ≡ fits list n) (eqb s Identifier) (λ t. lt-leb TemplateArguments s (omega (arith, eqb→eq s Identifier t))) λ _.
      by_if (λ (n : Node). leb TemplateArguments s ≡ fits list n) (leb s End) (λ t. lt-leb TemplateArguments s (omega (arith, leb→le s End t))) λ _.
      by_if (λ (n : Node). leb TemplateArguments s ≡ fits list n) (ltb s TemplateArguments)
      (λ u. lt-leb TemplateArguments s (omega (arith, ltb→lt s TemplateArguments u))) (λ u. le-leb TemplateArguments s (omega (arith, nltb→le s TemplateArguments u)))

-- ---- the item that stands at a byte offset, against a node of a shape

module _ (table : List ℕ) (s : ℕ) (w : List ℕ) {at next : ℕ} where
  pub any_fits : {i : Item} → ItemStands table at i next → get_or table at 0 ≡ any_byte → true ≡ fits i (shape_seen s w)
  unfolding first_byte item_bytes fits
  any_fits {i = word v} h b = absurd (omega (arith, byte_there table h, b))
  any_fits {i = kind k} h b = absurd (omega (arith, byte_there table h, b))
  any_fits {i = group} h b = absurd (omega (arith, byte_there table h, b))
  any_fits {i = list} h b = absurd (omega (arith, byte_there table h, b))
  any_fits {i = any} h b = refl

  pub word_other : {i : Item} → ItemStands table at i next → get_or table at 0 ≡ word_byte → s ≢ Identifier → false ≡ fits i (shape_seen s w)
  unfolding first_byte item_bytes
  word_other {i = word v} h b d = other_shape s w v d
  word_other {i = kind k} h b d = absurd (omega (arith, byte_there table h, b))
  word_other {i = group} h b d = absurd (omega (arith, byte_there table h, b))
  word_other {i = list} h b d = absurd (omega (arith, byte_there table h, b))
  word_other {i = any} h b d = absurd (omega (arith, byte_there table h, b))

  pub word_same : {i : Item} → ItemStands table at i next → get_or table at 0 ≡ word_byte → s ≡ Identifier
      → same_exactly (take (next - (at + after_two)) (drop (at + after_two) table)) w ≡ fits i (shape_seen s w)
  unfolding first_byte item_bytes fits
  word_same {i = word v} h b e = ap (λ (z : List ℕ). same_exactly z w) (word_text table v h) ∙ ap (fits (word v)) (sym (seen_word s w e))
  word_same {i = kind k} h b e = absurd (omega (arith, byte_there table h, b))
  word_same {i = group} h b e = absurd (omega (arith, byte_there table h, b))
  word_same {i = list} h b e = absurd (omega (arith, byte_there table h, b))
  word_same {i = any} h b e = absurd (omega (arith, byte_there table h, b))

  pub kind_same : {i : Item} → ItemStands table at i next → get_or table at 0 ≡ kind_byte → eqb (get_or table (at + 1) 0) s ≡ fits i (shape_seen s w)
  unfolding first_byte item_bytes good_item
  kind_same {i = word v} h b = absurd (omega (arith, byte_there table h, b))
  kind_same {i = kind k} h b = ap (λ (n : ℕ). eqb n s) (byte_at table h 1 (omega arith)) ∙ same_kind s w k h.good
  kind_same {i = group} h b = absurd (omega (arith, byte_there table h, b))
  kind_same {i = list} h b = absurd (omega (arith, byte_there table h, b))
  kind_same {i = any} h b = absurd (omega (arith, byte_there table h, b))

  pub group_fits : {i : Item} → ItemStands table at i next → get_or table at 0 ≡ group_byte → (leb NoNode s && ltb s TemplateArguments) ≡ fits i (shape_seen s w)
  unfolding first_byte item_bytes
  group_fits {i = word v} h b = absurd (omega (arith, byte_there table h, b))
  group_fits {i = kind k} h b = absurd (omega (arith, byte_there table h, b))
  group_fits {i = group} h b = group_shape s w
  group_fits {i = list} h b = absurd (omega (arith, byte_there table h, b))
  group_fits {i = any} h b = absurd (omega (arith, byte_there table h, b))

  pub list_fits : {i : Item} → ItemStands table at i next → get_or table at 0 ≢ any_byte → get_or table at 0 ≢ word_byte → get_or table at 0 ≢ kind_byte → get_or table at 0 ≢ group_byte
      → leb TemplateArguments s ≡ fits i (shape_seen s w)
  unfolding first_byte item_bytes
  list_fits {i = word v} h a b c d = absurd (b (byte_there table h))
  list_fits {i = kind k} h a b c d = absurd (c (byte_there table h))
  list_fits {i = group} h a b c d = absurd (d (byte_there table h))
  list_fits {i = list} h a b c d = list_shape s w
  list_fits {i = any} h a b c d = absurd (a (byte_there table h))
