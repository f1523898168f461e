pub mod StoreRuns
