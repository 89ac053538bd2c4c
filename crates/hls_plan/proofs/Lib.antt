-- The lemmas of this crate, on least plans: the places that steps lead to, the prices row by row, the way back from the last place,
-- and the number of pairs that are examined.
mod Between
mod RowLooks
mod PricedRows
mod WaysBack
mod LeastCosts
mod Results
