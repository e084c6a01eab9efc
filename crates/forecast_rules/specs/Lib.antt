pub mod Broken
pub mod ForecastOf
pub mod Forecast
