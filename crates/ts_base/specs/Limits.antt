-- How large models, inputs, certificates and texts may be.
use Rattle.std.specs.Prelude.{ℕ, ℤ, pos, neg_ℤ, ◌≤ℤ◌}

-- the most cells of a series
abbrev pub most_cells : ℕ
most_cells = 512

-- the greatest value of a cell; the least is its opposite
abbrev pub greatest_value : ℤ
greatest_value = pos 1000000

-- a value that a cell may have
abbrev pub IsCellValue : ℤ → Type 0
IsCellValue x = (neg_ℤ greatest_value ≤ℤ x) × (x ≤ℤ greatest_value)

-- the most terms of a model
abbrev pub most_terms : ℕ
most_terms = 32

-- the most requirements of a model
abbrev pub most_requirements : ℕ
most_requirements = 64

-- the greatest bound of a requirement that is a number; the least is its opposite
abbrev pub greatest_bound : ℤ
greatest_bound = pos 1000000000000

-- the most values that all domains of a model have together, where it is solved
abbrev pub most_domain_values : ℕ
most_domain_values = 65536

-- the most bytes of an input that is a model
abbrev pub most_model_bytes : ℕ
most_model_bytes = 1048576

-- the most bytes of a model or a pattern with what follows it: a series, or a stream of readings
abbrev pub most_check_bytes : ℕ
most_check_bytes = 2097152

-- the most bytes of a model and a certificate
abbrev pub most_verify_bytes : ℕ
most_verify_bytes = 135266304

-- the most checked lines of a certificate, and the greatest budget of a search
abbrev pub most_checked : ℕ
most_checked = 4000000

-- the most series of a listing
abbrev pub most_listed : ℕ
most_listed = 5000

-- no text, line or list that a call takes has so many bytes or items
abbrev pub too_many : ℕ
too_many = 4000000000
