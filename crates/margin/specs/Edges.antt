-- How far past a primitive's edge a point is, and how many steps leave it on the same side.
use Rattle.std.specs.Prelude.{ℕ, ◌+◌, ◌-◌, ◌*◌, ◌≤◌, ℤ, nat_abs, ◌+ℤ◌, ◌-ℤ◌, ◌*ℤ◌}
use Rattle.rules.specs.declared.Corner.{Corner}
use Rattle.rules.specs.Inside.{square}

-- the steps from a drum's edge that are looked at, at most
abbrev pub most_steps : ℕ
most_steps = 64

-- r steps of a number, of at most `weight` each, fall short of its distance from 0; where it is 0 they come to nothing
abbrev pub Slack : ℤ → ℕ → ℕ → Type 0
Slack f weight r = r * weight ≤ nat_abs f - 1

-- at most 0 on a wedge's side of its plane
abbrev pub past_plane : ℤ → ℤ → ℤ → ℤ → ℤ → ℤ → ℤ → ℤ
past_plane a b c d x y z = a *ℤ x +ℤ b *ℤ y -ℤ (d -ℤ c *ℤ z)

-- what a step of one column and a step of one code change an edge's side by
abbrev pub edge_weight : Corner → Corner → ℕ
edge_weight a b = nat_abs (a.y -ℤ b.y) + nat_abs (b.x -ℤ a.x)

-- at most 0 in an ellipse
abbrev pub past_ellipse : ℤ → ℤ → ℤ → ℤ → ℤ → ℤ → ℤ
past_ellipse cx cy rx ry x y = square ry *ℤ square (x -ℤ cx) +ℤ square rx *ℤ square (y -ℤ cy) -ℤ square rx *ℤ square ry

-- what one of so few steps from v changes r²(v - c)² by, at most
abbrev pub bend_weight : ℤ → ℤ → ℤ → ℕ
bend_weight r c v = nat_abs (square r) * (2 * nat_abs (v -ℤ c) + most_steps)
